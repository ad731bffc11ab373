use Rattle.summaries.proofs.Bringing.{choice_brings}
use Rattle.summaries.proofs.brings.BringsSummary.choice.Goals as goal

pub returns : goal.returns
returns c l r formed f g = (choice_brings _ _ l r _ _ f.0 g.0, c.choice.ensures l r formed f.1 g.1)
