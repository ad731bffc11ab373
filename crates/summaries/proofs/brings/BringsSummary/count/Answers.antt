use Rattle.summaries.proofs.Bringing.{count_brings}
use Rattle.summaries.proofs.brings.BringsSummary.count.Goals as goal

pub returns : goal.returns
returns c t formed f = (count_brings _ _ t _ _ formed.1 _ f.0, c.count.ensures t formed f.1)
