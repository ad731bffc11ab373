use Rattle.std.proofs.Common.{arith}
use Rattle.models.proofs.Along.{checked_more}
use Rattle.models.proofs.summary.work.work_up.Goals as goal

pub loop-part-preserved : goal.loop-part-preserved
loop-part-preserved g c = (
  omega arith,
  omega arith,
  checked_more _ _ c.parts-part-items.ensures.checked _ _ c.loop-part.invariant.2 _ _ _ c.loop-part-test.true c.in-Ok.ensures c.apply.ensures.told,
)
