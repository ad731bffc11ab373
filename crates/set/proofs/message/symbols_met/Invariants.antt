use Rattle.std.proofs.Common.{◌≡◌, take}
use Rattle.set.specs.Asking.{met_in}
use Rattle.set.proofs.message.symbols_met.Given as goal

abbrev pub invariant-loop-symbol : goal.invariant-loop-symbol
invariant-loop-symbol l = l.met.bits ≡ met_in (take l.symbol-index l.message)
