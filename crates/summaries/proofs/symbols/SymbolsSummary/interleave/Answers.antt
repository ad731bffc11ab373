use Rattle.summaries.proofs.Carried.{interleave_symbols}
use Rattle.summaries.proofs.symbols.SymbolsSummary.interleave.Goals as goal

pub returns : goal.returns
returns c l r formed f g = rw c.union.ensures (interleave_symbols _ _ l r f g formed.0 formed.1)
