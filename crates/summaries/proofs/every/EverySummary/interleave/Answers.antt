use Rattle.models.proofs.Sides.{interleave_sides}
use Rattle.summaries.proofs.Everywhere.{sides_every}
use Rattle.summaries.proofs.every.EverySummary.interleave.Goals as goal

pub returns : goal.returns
returns c l r formed f g = rw c.side_by_side.ensures (sides_every _ interleave_sides l r _ _ _ _ f g)
