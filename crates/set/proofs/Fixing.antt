-- That the law of a set leaves no answer open. Assumes nothing.
use Rattle.std.proofs.Common.{◌≡◌, ℕ, List, ◌++◌, Some, None, Option, sym, ap, ◌∙◌, subst}
use Rattle.parts.specs.Refusals.{Notice}
use Rattle.parts.specs.declared.part.Part.{Part}
use Rattle.models.specs.Messages.{Message}
use Rattle.models.specs.Sheets.{table_answer, tree_or}
use Rattle.models.specs.Trees.{Tree}
use Rattle.rules.specs.Rules.{Rule, Breaks, SomeBreaks, FirstIs}
use Rattle.rules.proofs.Firsts.{one_answer}
use Rattle.set.specs.declared.state.State.{State}
use Rattle.set.specs.declared.state.State.TheVariants.{DrawnUp, Issued}
use Rattle.set.specs.Five.{five}
use Rattle.set.specs.Histories.{Asked, Told, History, named, stands, state}
use Rattle.set.specs.Histories.Asked.{declare, withdraw, issue, recall, compare, judge}
use Rattle.set.specs.Histories.Told.{included, fits}
use Rattle.set.specs.Law.{Ends, Granted, Only, ModelIs, ComparedTo, JudgedBy, CompareEnds, JudgeEnds, compare_asked, judge_asked, InDrawnUp, InIssued, Due}
use Rattle.set.proofs.Standing.{same_parts}

-- there is one such answer
abbrev pub Fixed : (Told → Type 0) → Type 0
Fixed Says = (a b : Told) → Says a → Says b → a ≡ b

granted_fixed : Fixed Granted
granted_fixed a b e f = e ∙ sym f

ends_fixed : (q : Option Notice) (Says : Told → Type 0) → Fixed Says → Fixed (Ends q Says)
ends_fixed None Says fixed = fixed
ends_fixed (Some n) Says fixed = λ a b e f. e ∙ sym f

drawn_up_fixed : (s : State) (Says : Told → Type 0) → Fixed Says → Fixed (InDrawnUp s Says)
drawn_up_fixed DrawnUp Says fixed = fixed
drawn_up_fixed Issued Says fixed = λ a b e f. e ∙ sym f

issued_fixed : (s : State) (Says : Told → Type 0) → Fixed Says → Fixed (InIssued s Says)
issued_fixed DrawnUp Says fixed = λ a b e f. e ∙ sym f
issued_fixed Issued Says fixed = fixed

-- what stands is of one model
model_fixed : (was : Option (List Part)) (t u : Tree) → ModelIs was t → ModelIs was u → t ≡ u
model_fixed was t u (ps, is, reads) (qs, also, likewise) =
    let same = same_parts ps qs (sym is ∙ also) in
    ap (tree_or t) (sym reads ∙ ap table_answer same ∙ likewise)

module _ (behind : List Rule) (sent was : Option (List Part)) where
  abbrev Compares : Told → Type 0
  Compares told = (t : Tree) × (u : Tree) × ModelIs sent t × ModelIs was u × ComparedTo t u behind told

  compares_fixed : Fixed Compares
  compares_fixed a b (t, u, one, other, (v, is, first, at, exact)) (t′, u′, one′, other′, (v′, is′, first′, at′, exact′)) =
      let at_t = subst (λ x. FirstIs (SomeBreaks x) (five u′ ++ behind) v′) (model_fixed sent t′ t one′ one) first′ in
      let at_u = subst (λ x. FirstIs (SomeBreaks t) (five x ++ behind) v′) (model_fixed was u′ u other′ other) at_t in
      is ∙ ap (named included) (one_answer (SomeBreaks t) (five u ++ behind) v v′ first at_u) ∙ sym is′

module _ (was : Option (List Part)) (message : Message) where
  abbrev Judges : Told → Type 0
  Judges told = (t : Tree) × ModelIs was t × JudgedBy t message told

  judges_fixed : Fixed Judges
  judges_fixed a b (t, one, (v, is, first, at, exact)) (t′, one′, (v′, is′, first′, at′, exact′)) =
      let at_t = subst (λ x. FirstIs (Breaks message) (five x) v′) (model_fixed was t′ t one′ one) first′ in
      is ∙ ap (named fits) (one_answer (Breaks message) (five t) v v′ first at_t) ∙ sym is′

-- so what a call ends with is the only answer
only : (Says : Told → Type 0) (told : Told) → Fixed Says → Says told → Only Says told
only Says told fixed says = (says, λ other also. fixed other told also says)

compare_fixed : (behind : List Rule) (n : ℕ) (sent expected : Option (List Part)) (s e : ℕ) → Fixed (CompareEnds behind n sent expected s e)
compare_fixed behind n sent expected s e = ends_fixed (compare_asked n sent expected s e) (Compares behind sent expected) (compares_fixed behind sent expected)

pub compare_only : (behind : List Rule) (n : ℕ) (sent expected : Option (List Part)) (s e : ℕ) (told : Told) → CompareEnds behind n sent expected s e told → Only (CompareEnds behind n sent expected s e) told
compare_only behind n sent expected s e told = only (CompareEnds behind n sent expected s e) told (compare_fixed behind n sent expected s e)

judge_fixed : (n : ℕ) (was : Option (List Part)) (m : ℕ) (message : Message) → Fixed (JudgeEnds n was m message)
judge_fixed n was m message = ends_fixed (judge_asked n was m message) (Judges was message) (judges_fixed was message)

pub judge_only : (n : ℕ) (was : Option (List Part)) (m : ℕ) (message : Message) (told : Told) → JudgeEnds n was m message told → Only (JudgeEnds n was m message) told
judge_only n was m message told = only (JudgeEnds n was m message) told (judge_fixed n was m message)

pub due_fixed : (behind : List Rule) (n : ℕ) (h : History) (a : Asked) → Fixed (Due behind n h a)
due_fixed behind n h (declare m ps) = drawn_up_fixed (state h) _ (ends_fixed _ Granted granted_fixed)
due_fixed behind n h (withdraw m) = drawn_up_fixed (state h) _ (ends_fixed _ Granted granted_fixed)
due_fixed behind n h issue = drawn_up_fixed (state h) Granted granted_fixed
due_fixed behind n h recall = issued_fixed (state h) Granted granted_fixed
due_fixed behind n h (compare s e) = issued_fixed (state h) _ (compare_fixed behind n (stands h s) (stands h e) s e)
due_fixed behind n h (judge m message) = issued_fixed (state h) _ (judge_fixed n (stands h m) m message)

pub due_only : (behind : List Rule) (n : ℕ) (h : History) (a : Asked) (told : Told) → Due behind n h a told → Only (Due behind n h a) told
due_only behind n h a told = only (Due behind n h a) told (due_fixed behind n h a)
