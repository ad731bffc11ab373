use Rattle.std.proofs.Common.{◌≡◌, true, false, List, ◌∷◌, ℕ, length}
use Rattle.grammar.specs.Declarations.{Declaration}
use Rattle.grammar.specs.Lists.{Left}
use Rattle.grammar.specs.Lists.State.{got}
use Rattle.grammar.specs.Machine.Spot.{kids}
use Rattle.grammar.specs.Words.{Words, is_plain}
use Rattle.text.specs.Declaring.{ReadTo, PartsFor, state_parts, GroupsAre, Onward}
use Rattle.text.specs.declared.elements.Elements.{Elements}
use Rattle.text.proofs.Going.{AtEither}
use Rattle.text.proofs.dtd.children.goes_on.Given as goal

abbrev pub invariant-loop-before : goal.invariant-loop-before
invariant-loop-before l =
    Onward l.fn.cursor l.cursor
    × ((ks : List (List ℕ)) (bytes : List ℕ) (ds : List Declaration) (n : List ℕ) (o : List Left) (k : Left) (w : Words) (e : Elements)
    → ReadTo ks bytes (kids ds n (got o k w)) false l.fn.cursor e → is_plain w ≡ true → GroupsAre (k ∷ o) l.fn.groups
    → PartsFor (state_parts (got o k w)) e l.fn.made → AtEither ks bytes ds n l.cursor e l.made l.groups)

abbrev pub decreases-loop-before : goal.decreases-loop-before
decreases-loop-before l = length l.groups.waiting
