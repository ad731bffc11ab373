use Rattle.std.proofs.Common.{◌≡◌, ◌-◌, List, [], ℕ, None, Bool, length, ◌==◌}
use Rattle.grammar.specs.Bytes.{is_blank}
use Rattle.grammar.specs.Declarations.{Declaration}
use Rattle.grammar.specs.Lists.State.{want}
use Rattle.grammar.specs.Machine.Spot.{kids}
use Rattle.text.specs.Contents.{made_of}
use Rattle.text.specs.Cursors.{rest_of}
use Rattle.text.specs.Declaring.{ReadTo, MemberWanted}
use Rattle.text.specs.Fronts.{Past}
use Rattle.text.specs.Progress.{NamesGrow}
use Rattle.text.proofs.dtd.children.children.Given as goal

abbrev pub invariant-loop-cursor : goal.invariant-loop-cursor
invariant-loop-cursor l =
    NamesGrow l.fn.elements l.elements
    × ((ks : List (List ℕ)) (bytes : List ℕ) (ds : List Declaration) (n : List ℕ) (h : Bool) → ReadTo ks bytes (kids ds n (want [] None)) h l.fn.cursor l.fn.elements
    → Past is_blank (rest_of l.fn.cursor) → Past (λ b. b == 35) (rest_of l.fn.cursor) → l.fn.made ≡ made_of [] → MemberWanted ks bytes ds n l.cursor l.elements l.made l.groups)

abbrev pub decreases-loop-cursor : goal.decreases-loop-cursor
decreases-loop-cursor l = length l.cursor.text.now - l.cursor.at
