use Rattle.std.proofs.Common.{take}
use Rattle.set.proofs.Sofar.{NoneIn}
use Rattle.set.proofs.message.has_one_of.Given as goal

abbrev pub invariant-loop-symbol : goal.invariant-loop-symbol
invariant-loop-symbol l = NoneIn l.set.bits (take l.symbol-index l.message)
