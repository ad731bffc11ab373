use Rattle.summaries.proofs.Carried.{choice_symbols}
use Rattle.summaries.proofs.symbols.SymbolsSummary.choice.Goals as goal

pub returns : goal.returns
returns c l r formed f g = rw c.union.ensures (choice_symbols _ _ l r f g)
