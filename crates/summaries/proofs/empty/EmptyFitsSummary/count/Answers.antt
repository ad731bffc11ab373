use Rattle.summaries.proofs.Empties.{count_empty}
use Rattle.summaries.proofs.empty.EmptyFitsSummary.count.Goals as goal

pub returns : goal.returns
returns c t formed = count_empty c.args.of t c.args._repeats.low c.args._repeats.high formed.1
