use Rattle.std.proofs.Common.{ℕ, List, ◌<◌, length, ap, length-take, arith}
use Rattle.names.proofs.Keeping.{kept_behind}
use Rattle.names.proofs.names.Names.add.Goals as goal

pub invariant_of-self : goal.invariant_of-self
invariant_of-self c =
    let (room, short, new) = c.requires in
    let long = ap length c.self.view_is in
    let within : c.self.inside.len < 64 = omega (arith, length-take {A = List ℕ}) in
    (omega arith, kept_behind c.self.inside.names c.args.self.now c.args.name.now c.of.result c.self.inside.len (omega arith) c.self.view_is c.of.ensures (rw c.self.view_is at c.self.invariant.1) room short new)

pub returns-clause-kept : goal.returns-clause-kept
returns-clause-kept c = (invariant_of-self c).1
