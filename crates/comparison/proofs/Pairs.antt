-- That the calls of a new set end as the comparison of a pair does, and that no other end is one. Assumes nothing.
use Rattle.std.proofs.Common.{◌≡◌, ℕ, List, [], ◌∷◌, ◌++◌, length, Some, None, Ok, Err, Option, Result, sym, ap, ◌∙◌, subst, eqb}
use Rattle.parts.specs.Refusals.{Notice}
use Rattle.parts.specs.declared.part.Part.{Part}
use Rattle.models.specs.Conflicts.{first_conflict_of}
use Rattle.models.specs.Sheets.{table_answer, tree_or}
use Rattle.models.specs.Trees.{Tree}
use Rattle.rules.specs.Rules.{SomeBreaks}
use Rattle.rules.proofs.Firsts.{one_answer}
use Rattle.store.specs.declared.slot.Slot.{Slot}
use Rattle.set.specs.Five.{five}
use Rattle.set.specs.Histories.{Asked, Told, Event, History, named}
use Rattle.set.specs.Histories.Asked.{declare, issue, compare}
use Rattle.set.specs.Histories.Told.{granted, included, refused}
use Rattle.set.specs.Law.{Ends, Only, ModelIs, ComparedTo, Due}
use Rattle.set.specs.Leading.{Leads, Steps}
use Rattle.set.specs.declared.state.State.TheVariants.{DrawnUp, Issued}
use Rattle.set.proofs.Fixing.{Fixed}
use Rattle.set.proofs.Standing.{same_parts}
use Rattle.comparison.specs.Pairs.{sheet_refused, ModelsEnd, TablesEnd, PairEnds}
use Rattle.comparison.proofs.Asking.{sent_goes, expected_goes, compare_goes}

-- there is one such end
compared_fixed : (t u : Tree) → Fixed (ComparedTo t u [])
compared_fixed t u a b (v, is, first, at, exact) (v′, is′, first′, at′, exact′) =
    is ∙ ap (named included) (one_answer (SomeBreaks t) (five u ++ []) v v′ first first′) ∙ sym is′

models_fixed : (t u : Tree) (conflict : Option ℕ) → Fixed (ModelsEnd t u conflict)
models_fixed t u None = compared_fixed t u
models_fixed t u (Some place) = λ a b e f. e ∙ sym f

tables_fixed : (sent expected : Result Tree Notice) → Fixed (TablesEnd sent expected)
tables_fixed (Err n) expected = λ a b e f. e ∙ sym f
tables_fixed (Ok t) (Err n) = λ a b e f. e ∙ sym f
tables_fixed (Ok t) (Ok u) = models_fixed t u (first_conflict_of u)

ends_fixed : (q : Option Notice) (Says : Told → Type 0) → Fixed Says → Fixed (Ends q Says)
ends_fixed None Says fixed = fixed
ends_fixed (Some n) Says fixed = λ a b e f. e ∙ sym f

pair_only : (n : ℕ) (sent expected : List Part) (told : Told) → PairEnds n sent expected told → Only (PairEnds n sent expected) told
pair_only n sent expected told ends = (
  ends,
  λ other also. ends_fixed (sheet_refused n) _ (tables_fixed (table_answer sent) (table_answer expected)) other told also ends,
)

-- the tree of a model is one
tree_is : (ps : List Part) (t u : Tree) → table_answer ps ≡ Ok t → ModelIs (Some ps) u → u ≡ t
tree_is ps t u reads (qs, is, likewise) = ap (tree_or t) (sym likewise ∙ ap table_answer (sym (same_parts ps qs is)) ∙ reads)

-- the calls that were granted
abbrev event : Asked → Event
event asked = record { asked = asked; told = granted }

module _ (n : ℕ) (sent expected : List Part) where
  abbrev one : History
  one = event (declare 1 sent) ∷ []

  abbrev both : History
  both = event (declare 2 expected) ∷ one

  abbrev in_use : History
  in_use = event issue ∷ both

  abbrev Says : Told → Type 0
  Says told = (t : Tree) × (u : Tree) × ModelIs (Some sent) t × ModelIs (Some expected) u × ComparedTo t u [] told

  says_of : (told : Told) (t u : Tree) → table_answer sent ≡ Ok t → table_answer expected ≡ Ok u → Says told → ComparedTo t u [] told
  says_of told t u reads likewise (t′, u′, first, second, compared) =
      subst (λ x. ComparedTo x u [] told) (tree_is sent t t′ reads first) (subst (λ x. ComparedTo t′ x [] told) (tree_is expected u u′ likewise second) compared)

  sent_ends : (r : Notice) → Due [] n [] (declare 1 sent) (refused r) → PairEnds n sent expected (refused r)
  sent_ends r due = sent_goes (eqb n 8192) (table_answer sent) (table_answer expected) r due

  expected_ends : (r : Notice) → Due [] n [] (declare 1 sent) granted → Due [] n one (declare 2 expected) (refused r) → PairEnds n sent expected (refused r)
  expected_ends r due next = expected_goes (eqb n 8192) (table_answer sent) (table_answer expected) r due next

  compare_ends : (told : Told) → Due [] n [] (declare 1 sent) granted → Due [] n one (declare 2 expected) granted → Due [] n in_use (compare 1 2) told
      → PairEnds n sent expected told
  compare_ends told due next last = compare_goes (eqb n 8192) (table_answer sent) (table_answer expected) Says told (says_of told) due next last

-- the same of the calls of a set
module _ (first sent expected sheet : List Part) (slots : List Slot) (led : Leads first [] DrawnUp sheet slots) (sheet₁ : List Part) (slots₁ : List Slot) where
  pub sent_refused : (r : Notice) → Steps [] (declare 1 sent) (refused r) DrawnUp sheet slots DrawnUp sheet₁ slots₁ → Only (PairEnds (length first) sent expected) (refused r)
  sent_refused r declared = pair_only (length first) sent expected (refused r) (sent_ends (length first) sent expected r ((declared first [] led).0.0))

  module _ (declared : Steps [] (declare 1 sent) granted DrawnUp sheet slots DrawnUp sheet₁ slots₁) (sheet₂ : List Part) (slots₂ : List Slot) where
    pub expected_refused : (r : Notice) → Steps [] (declare 2 expected) (refused r) DrawnUp sheet₁ slots₁ DrawnUp sheet₂ slots₂ → Only (PairEnds (length first) sent expected) (refused r)
    expected_refused r also =
        let (due, leads) = declared first [] led in
        pair_only (length first) sent expected (refused r) (expected_ends (length first) sent expected r due.0 ((also first _ leads).0.0))

    pub compared : (told : Told) (sheet₃ : List Part) (slots₃ : List Slot) → Steps [] (declare 2 expected) granted DrawnUp sheet₁ slots₁ DrawnUp sheet₂ slots₂
        → Steps [] issue granted DrawnUp sheet₂ slots₂ Issued sheet₃ slots₃ → Steps [] (compare 1 2) told Issued sheet₃ slots₃ Issued sheet₃ slots₃
        → Only (PairEnds (length first) sent expected) told
    compared told sheet₃ slots₃ also issued compares =
        let (due, leads) = declared first [] led in
        let (next, leads₂) = also first _ leads in
        let leads₃ = (issued first _ leads₂).1 in
        pair_only (length first) sent expected told (compare_ends (length first) sent expected told due.0 next.0 ((compares first _ leads₃).0.0))
