use Rattle.std.proofs.Common.{◌≡◌, ◌≤◌}
use Rattle.models.specs.Checking.{flags}
use Rattle.parts.specs.Stacks.{depth, room}
use Rattle.models.proofs.Along.{Along}
use Rattle.models.proofs.model.check.check_parts.Given as goal

abbrev pub invariant-loop-place : goal.invariant-loop-place
invariant-loop-place l =
    (depth l.waiting ≤ l.place) × (room l.waiting ≡ 256) × Along flags l.parts l.place l.waiting.waiting
