use Rattle.std.proofs.Common.{◌≤◌, ◌-◌, length}
use Rattle.text.proofs.Bits.{ReadSoFar}
use Rattle.text.proofs.cursor.bytes.comment_inside.Given as goal

abbrev pub invariant-loop-bytes : goal.invariant-loop-bytes
invariant-loop-bytes l = record { within : l.at ≤ length l.text; read : ReadSoFar l.text l.at }

abbrev pub decreases-loop-bytes : goal.decreases-loop-bytes
decreases-loop-bytes l = length l.text - l.at
