use Rattle.std.proofs.Common.{rules, arith, length, ◌+◌, ◌-◌, ◌*◌}
use Rattle.store.proofs.Writes.{window_put}
use Rattle.store.proofs.windows.write.Goals as goal

pub returns : goal.returns
returns c =
    window_put c.args.sheet.now c.args.parts.now c.copy_from_slice.new.self c.fill.new.self c.args.place (256 * c.args.place + 256 - (256 * c.args.place + length c.args.parts.now))
    (omega arith) (omega arith) (omega arith) (search rules) (search rules) (omega arith)
