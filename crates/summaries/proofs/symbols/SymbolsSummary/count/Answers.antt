use Rattle.summaries.proofs.Carried.{count_symbols}
use Rattle.summaries.proofs.symbols.SymbolsSummary.count.Goals as goal

pub returns : goal.returns
returns c t formed f = count_symbols c.args.of.bits t c.args._repeats.low c.args._repeats.high formed.1 f
