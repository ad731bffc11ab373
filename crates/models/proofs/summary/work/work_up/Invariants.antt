use Rattle.std.proofs.Common.{◌≡◌, ◌≤◌}
use Rattle.parts.specs.Stacks.{depth, room}
use Rattle.models.proofs.Along.{Along}
use Rattle.models.proofs.summary.work.work_up.Given as goal

abbrev pub invariant-loop-part : goal.invariant-loop-part
invariant-loop-part g l =
    (depth l.stack ≤ l.part-index) × (room l.stack ≡ 256) × Along (g.S.Summary.means l.summary) l.part-items l.part-index l.stack.waiting
