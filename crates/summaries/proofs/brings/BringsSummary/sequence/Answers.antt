use Rattle.models.proofs.Sides.{sequence_sides}
use Rattle.summaries.proofs.Bringing.{sides_bring}
use Rattle.summaries.proofs.brings.BringsSummary.sequence.Goals as goal

pub returns : goal.returns
returns c l r formed f g =
    (rw c.side_by_side.ensures (sides_bring _ _ sequence_sides l r _ _ _ _ f.0 g.0 f.1.0 g.1.0), c.sequence.ensures l r formed f.1 g.1)
