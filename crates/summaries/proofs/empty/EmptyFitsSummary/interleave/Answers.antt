use Rattle.summaries.proofs.Empties.{interleave_empty}
use Rattle.summaries.proofs.empty.EmptyFitsSummary.interleave.Goals as goal

pub returns : goal.returns
returns c l r formed = interleave_empty c.args.left c.args.right l r
