use Rattle.summaries.proofs.Bringing.{nonempty_brings}
use Rattle.summaries.proofs.brings.BringsSummary.nonempty.Goals as goal

pub returns : goal.returns
returns c t formed f = (nonempty_brings _ _ t _ f.0, c.nonempty.ensures t formed f.1)
