use Rattle.summaries.proofs.Everywhere.{choice_every}
use Rattle.summaries.proofs.every.EverySummary.choice.Goals as goal

pub returns : goal.returns
returns c l r formed f g = choice_every _ l r _ _ _ _ f g
