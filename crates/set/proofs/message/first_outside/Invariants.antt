use Rattle.std.proofs.Common.{take}
use Rattle.set.specs.Asking.{AllIn}
use Rattle.set.proofs.message.first_outside.Given as goal

abbrev pub invariant-loop-place : goal.invariant-loop-place
invariant-loop-place l = AllIn l.set.bits (take l.place l.message)
