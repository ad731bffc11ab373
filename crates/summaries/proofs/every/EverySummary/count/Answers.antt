use Rattle.summaries.proofs.Everywhere.{count_every}
use Rattle.summaries.proofs.every.EverySummary.count.Goals as goal

pub returns : goal.returns
returns c t formed f = count_every _ t _ _ formed.1 _ _ f
