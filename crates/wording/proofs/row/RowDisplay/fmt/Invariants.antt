use Rattle.std.proofs.Common.{◌≡◌, ℕ, List, ◌++◌, length}
use denote.Text.{Utf8}
use denote.Shadow.{shadow}
use Rattle.std.specs.Fmt.{IsPlainFormatter, HasWritten}
use Rattle.std.specs.List.{join_by}
use Rattle.parts.specs.Sets.{members}
use Rattle.parts.proofs.Joining.{gap_after}
use Rattle.wording.specs.Symbols.{symbol_said}
use Rattle.wording.proofs.row.RowDisplay.fmt.Given as goal

-- the symbols taken out are written, and what stands before the next is text: nothing, or what goes between two
abbrev pub invariant-loop-symbol : goal.invariant-loop-symbol
invariant-loop-symbol g l =
    (seen : List ℕ) ×
    (members l.self.set.bits ≡ seen ++ members l.rest.bits) ×
    shadow (Utf8 l.gap) ×
    (l.gap ≡ gap_after l.self.between.now seen) ×
    (IsPlainFormatter l.initial.f → HasWritten g.W.Write.write_str_gives l.initial.f (join_by (symbol_said l.names) l.self.between.now seen) l.f)

abbrev pub decreases-loop-symbol : goal.decreases-loop-symbol
decreases-loop-symbol g l = length (members l.rest.bits)
