use Rattle.summaries.proofs.Carried.{nonempty_symbols}
use Rattle.summaries.proofs.symbols.SymbolsSummary.nonempty.Goals as goal

pub returns : goal.returns
returns c t formed f = nonempty_symbols c.args.of.bits t f
