use Rattle.models.proofs.Sides.{sequence_sides}
use Rattle.summaries.proofs.Carried.{sides_carried}
use Rattle.summaries.proofs.Reversals.{sequence_reverses}
use Rattle.summaries.proofs.after.AfterSummary.sequence.Goals as goal

pub returns : goal.returns
returns c l r (u, v) f g = rw c.either-either.ensures (
  sequence_reverses _ _ l r u v _ _ f.0 g.0 _ _ f.2 g.1,
  sides_carried l r _ _ _ f.1 g.1 sequence_sides u v,
  sides_carried l r _ _ _ f.2 g.2 sequence_sides u v,
)
