use Rattle.std.proofs.Common.{◌∙◌}
use Rattle.std.proofs.lemmas.Bool.{le-leb, cond-true}
use Rattle.summaries.proofs.Carried.{symbol_symbols}
use Rattle.summaries.proofs.symbols.SymbolsSummary.symbol.Goals as goal

pub returns : goal.returns
returns c low = rw (c.of.ensures ∙ cond-true _ _ _ (le-leb c.args.symbol 63 low)) (symbol_symbols c.args.symbol low)
