use Rattle.std.proofs.Common.{◌-◌, length}
use Rattle.text.proofs.Opening.{StaysBetween}
use Rattle.text.proofs.dtd.opening.gap.Given as goal

abbrev pub invariant-loop-place : goal.invariant-loop-place
invariant-loop-place l = StaysBetween l.fn.cursor l.cursor

abbrev pub decreases-loop-place : goal.decreases-loop-place
decreases-loop-place l = length l.cursor.text.now - l.cursor.at
