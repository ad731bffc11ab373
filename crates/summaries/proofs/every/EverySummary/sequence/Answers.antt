use Rattle.models.proofs.Sides.{sequence_sides}
use Rattle.summaries.proofs.Everywhere.{sides_every}
use Rattle.summaries.proofs.every.EverySummary.sequence.Goals as goal

pub returns : goal.returns
returns c l r formed f g = rw c.side_by_side.ensures (sides_every _ sequence_sides l r _ _ _ _ f g)
