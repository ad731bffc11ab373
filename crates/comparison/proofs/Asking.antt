-- From the questions of the calls to the end of a comparison: whether the sheet has 8,192 parts, and what the checks of the two tables answer, are variables. Assumes nothing.
use Rattle.std.proofs.Common.{◌≡◌, ℕ, Bool, true, false, cond, ◌&&◌, [], ◌∷◌, Some, None, Ok, Err, Option, Result, refl, sym, ap}
use Rattle.std.proofs.lemmas.Bool.{true≢false}
use Rattle.parts.specs.Refusals.{Notice, at_set}
use Rattle.models.specs.Conflicts.{first_conflict_of}
use Rattle.models.specs.Sheets.{tree_or}
use Rattle.models.specs.Trees.{Tree}
use Rattle.models.specs.Trees.Tree.{empty}
use Rattle.set.specs.Histories.{Told, is_granted}
use Rattle.set.specs.Histories.Told.{granted, refused}
use Rattle.set.specs.Law.{Ends, Granted, ComparedTo}
use Rattle.set.specs.Questions.{first_no, at_place, fault_told}
use Rattle.comparison.specs.Pairs.{ModelsEnd, TablesEnd}

granted-refused : (n : Notice) → granted ≡ refused n → ⊥
granted-refused n e = true≢false (ap is_granted e)

-- a number of a window, where the sheet has 8,192 parts
abbrev pub numbers : Bool → ℕ → Option Notice
numbers long m = cond (long && true) None (Some (at_set 2 m))

-- what a declare at the free number m ends with
abbrev pub DeclareGoes : Bool → ℕ → Result Tree Notice → Told → Type 0
DeclareGoes long m table = Ends (first_no (numbers long m ∷ None ∷ fault_told table ∷ [])) Granted

-- what the compare ends with where both are declared
abbrev pub CompareGoes : Bool → Result Tree Notice → (Told → Type 0) → Told → Type 0
CompareGoes long expected Says = Ends (first_no (numbers long 1 ∷ numbers long 2 ∷ None ∷ None ∷ at_place 11 (first_conflict_of (tree_or empty expected)) ∷ [])) Says

-- what the whole ends with
abbrev pub Goes : Bool → Result Tree Notice → Result Tree Notice → Told → Type 0
Goes long sent expected = Ends (cond long None (Some (at_set 2 1))) (TablesEnd sent expected)

pub sent_goes : (long : Bool) (sent expected : Result Tree Notice) (n : Notice) → DeclareGoes long 1 sent (refused n) → Goes long sent expected (refused n)
sent_goes false sent expected n h = h
sent_goes true (Err x) expected n h = h
sent_goes true (Ok t) expected n h = absurd (granted-refused n (sym h))

pub expected_goes : (long : Bool) (sent expected : Result Tree Notice) (n : Notice)
    → DeclareGoes long 1 sent granted → DeclareGoes long 2 expected (refused n) → Goes long sent expected (refused n)
expected_goes false sent expected n h g = absurd (granted-refused _ h)
expected_goes true (Err x) expected n h g = absurd (granted-refused x h)
expected_goes true (Ok t) (Err x) n h g = g
expected_goes true (Ok t) (Ok u) n h g = absurd (granted-refused n (sym g))

models_go : (t u : Tree) (Says : Told → Type 0) (told : Told) (conflict : Option ℕ) → (Says told → ComparedTo t u [] told)
    → Ends (first_no (at_place 11 conflict ∷ [])) Says told → ModelsEnd t u conflict told
models_go t u Says told None means h = means h
models_go t u Says told (Some place) means h = h

pub compare_goes : (long : Bool) (sent expected : Result Tree Notice) (Says : Told → Type 0) (told : Told)
    → ((t u : Tree) → sent ≡ Ok t → expected ≡ Ok u → Says told → ComparedTo t u [] told)
    → DeclareGoes long 1 sent granted → DeclareGoes long 2 expected granted → CompareGoes long expected Says told → Goes long sent expected told
compare_goes false sent expected Says told means h g c = absurd (granted-refused _ h)
compare_goes true (Err x) expected Says told means h g c = absurd (granted-refused x h)
compare_goes true (Ok t) (Err x) Says told means h g c = absurd (granted-refused x g)
compare_goes true (Ok t) (Ok u) Says told means h g c = models_go t u Says told (first_conflict_of u) (means t u refl refl) c
