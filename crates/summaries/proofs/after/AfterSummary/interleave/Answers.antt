use Rattle.models.proofs.Sides.{interleave_sides}
use Rattle.summaries.proofs.Carried.{sides_carried}
use Rattle.summaries.proofs.Reversals.{interleave_reverses}
use Rattle.summaries.proofs.after.AfterSummary.interleave.Goals as goal

pub returns : goal.returns
returns c l r (u, v) f g = rw c.either-either.ensures (
  interleave_reverses _ _ l r u v _ _ f.0 g.0 _ _ _ _ f.2 g.1 f.1 g.2,
  sides_carried l r _ _ _ f.1 g.1 interleave_sides u v,
  sides_carried l r _ _ _ f.2 g.2 interleave_sides u v,
)
