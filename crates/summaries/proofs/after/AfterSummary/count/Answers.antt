use Rattle.summaries.proofs.Carried.{count_carried}
use Rattle.summaries.proofs.Reversals.{count_reverses}
use Rattle.summaries.proofs.after.AfterSummary.count.Goals as goal

pub returns : goal.returns
returns c t (u, bounds) f = (
  count_reverses _ _ t _ _ bounds _ _ _ f.0 f.1 f.2,
  count_carried t _ _ f.1 _ _ bounds,
  count_carried t _ _ f.2 _ _ bounds,
)
