use Rattle.summaries.proofs.Carried.{sequence_symbols}
use Rattle.summaries.proofs.symbols.SymbolsSummary.sequence.Goals as goal

pub returns : goal.returns
returns c l r formed f g = rw c.union.ensures (sequence_symbols _ _ l r f g formed.0 formed.1)
