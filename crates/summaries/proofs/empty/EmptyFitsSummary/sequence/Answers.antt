use Rattle.summaries.proofs.Empties.{sequence_empty}
use Rattle.summaries.proofs.empty.EmptyFitsSummary.sequence.Goals as goal

pub returns : goal.returns
returns c l r formed = sequence_empty c.args.left c.args.right l r
