use Rattle.std.proofs.Common.{take, sym}
use Rattle.std.proofs.lemmas.List.{take_more}
use Rattle.set.proofs.Meeting.{met_in_more}
use Rattle.set.proofs.message.symbols_met.Goals as goal

pub loop-symbol-preserved : goal.loop-symbol-preserved
loop-symbol-preserved c =
    rw (c.union-met.ensures, c.of.ensures, c.loop-symbol.invariant, take_more c.args.message.now c.loop-symbol.symbol-index 0 c.loop-symbol-test.true)
    (sym (met_in_more (take c.loop-symbol.symbol-index c.args.message.now) _))
