use Rattle.std.proofs.Common.{take}
use Rattle.makers.specs.Found.{SymbolsMet}
use Rattle.makers.proofs.board.symbols_met.Given as goal

abbrev pub invariant-loop-symbol : goal.invariant-loop-symbol
invariant-loop-symbol l = SymbolsMet (take l.symbol-index l.message) l.met.bits
