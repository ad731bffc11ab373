-- What the first broken rule of the five lists, and of those hung behind, says of messages. Assumes nothing.
use Rattle.std.proofs.Common.{◌≡◌, ℕ, List, [], ◌∷◌, ◌++◌, Some, None, Option, sym, refl, subst, inl, inr, zero, suc, ◌<◌, ap, arith}
use Rattle.parts.specs.declared.part.Part.{Part}
use Rattle.models.specs.Checked.{tree_of, parts_of}
use Rattle.models.specs.Conflicts.{ConflictFree, first_conflict_of}
use Rattle.models.specs.Messages.{Message}
use Rattle.models.specs.Sheets.{table_answer}
use Rattle.models.specs.Trees.{Tree, Fits, Formed}
use Rattle.models.specs.declared.model.Model.{Model}
use Rattle.models.proofs.Conflicts.{none_exactly}
use Rattle.models.proofs.Unlike.{some-none}
use Rattle.models.proofs.Written.{answered_ok}
use Rattle.rules.specs.Rules.{Rule, KeepsAll, Breaks, SomeBreaks, FirstIs}
use Rattle.rules.specs.declared.verdict.Verdict.{Verdict}
use Rattle.rules.proofs.Firsts.{first_split, one_answer}
use Rattle.set.specs.Chained.{AllOf}
use Rattle.set.specs.Exact.{Included}
use Rattle.set.specs.Five.{upper_bound_rules, lower_bound_rules, cardinality_rules, co_occurrence_rules, order_rules, five}
use Rattle.set.specs.Histories.{named}
use Rattle.set.specs.Histories.Told.{included, fits}
use Rattle.set.specs.Law.{RuleAt, NamedFirst, Fails, SomeFails, NamesExactly, PassesExactly, ModelIs, ComparedTo, JudgedBy, Ends, compare_asked, judge_asked, CompareEnds, JudgeEnds}
use Rattle.set.specs.declared.expected.Expected.{Expected}
use Rattle.set.proofs.Exact.{five_exact, five_include, five_fit}
use Rattle.set.proofs.Sets.{formed_of}

-- five lists one after another, each of its own model, where they are all of one
pub five_asked : (P : Rule → Type 0) (t : Tree) (behind : List Rule) (a b c d e : Expected) (answer : Option Verdict) → AllOf t a b c d e
    → FirstIs P
    ((upper_bound_rules (tree_of a.model)
    ++ (lower_bound_rules (tree_of b.model) ++ (cardinality_rules (tree_of c.model) ++ (co_occurrence_rules (tree_of d.model) ++ order_rules (tree_of e.model))))) ++ behind)
    answer
    → FirstIs P (five t ++ behind) answer
five_asked P t behind a b c d e answer (f, g, h, i, j) first = rw (f, g, h, i, j) at first

pub five_alone : (P : Rule → Type 0) (t : Tree) (a b c d e : Expected) (answer : Option Verdict) → AllOf t a b c d e
    → FirstIs P
    (upper_bound_rules (tree_of a.model)
    ++ (lower_bound_rules (tree_of b.model) ++ (cardinality_rules (tree_of c.model) ++ (co_occurrence_rules (tree_of d.model) ++ order_rules (tree_of e.model)))))
    answer
    → FirstIs P (five t) answer
five_alone P t a b c d e answer (f, g, h, i, j) first = rw (f, g, h, i, j) at first

verdict_or : Verdict → Option Verdict → Verdict
verdict_or d None = d
verdict_or d (Some v) = v

same_verdict : (v w : Verdict) → Some v ≡ Some w → w ≡ v
unfolding verdict_or
same_verdict v w e = sym (ap (verdict_or v) e)

-- where the first of a list stands
pub named_first : (P : Rule → Type 0) (rules : List Rule) (v : Option Verdict) → FirstIs P rules v → NamedFirst P rules v
named_first P [] None first = λ k h. h
named_first P [] (Some v) first = absurd (some-none v first)
named_first P (rule ∷ rules) None (inl (holds, e)) = absurd (some-none rule.verdict (sym e))
named_first P (rule ∷ rules) None (inr (fails, more)) = none_here (named_first P rules None more)
  where
    none_here : ((k : ℕ) → RuleAt P rules k → ⊥) → (k : ℕ) → RuleAt P (rule ∷ rules) k → ⊥
    none_here none zero h = fails h
    none_here none (suc k) h = none k h
named_first P (rule ∷ rules) (Some v) (inl (holds, e)) = (0, (holds, same_verdict v rule.verdict e), λ j before h. absurd (omega (arith, before)))
named_first P (rule ∷ rules) (Some v) (inr (fails, more)) =
    let (k, here, none) = named_first P rules (Some v) more in
    (suc k, here, none_before k none)
  where
    none_before : (k : ℕ) → ((j : ℕ) → j < k → RuleAt P rules j → ⊥) → (j : ℕ) → j < suc k → RuleAt P (rule ∷ rules) j → ⊥
    none_before k none zero before h = fails h
    none_before k none (suc j) before h = none j (omega (arith, before)) h

-- a rule that is named is broken by some message, which does not keep all of its list
some_unkept : (t : Tree) (rules : List Rule) (v : Verdict) → FirstIs (SomeBreaks t) rules (Some v) → (m : Message) × Fits t m × (KeepsAll rules m → ⊥)
some_unkept t [] v named = absurd (some-none v named)
some_unkept t (rule ∷ rules) v (inl ((m, fit, breaks), e)) = (m, fit, λ (keeps, more). breaks keeps)
some_unkept t (rule ∷ rules) v (inr (kept, named)) = let (m, fit, unkept) = some_unkept t rules v named in (m, fit, λ (keeps, more). unkept more)

-- a message fails where it does not fit, and where it breaks a rule hung behind
fails_unfit : (u : Tree) (m : Message) (behind : List Rule) → (Fits u m → ⊥) → Fails u behind m
fails_unfit u m [] unfit = unfit
fails_unfit u m (rule ∷ rules) unfit = inl (fails_unfit u m rules unfit)

some_hung : (t u : Tree) (behind : List Rule) (v : Verdict) → FirstIs (SomeBreaks t) behind (Some v) → SomeFails t u behind
some_hung t u [] v named = absurd (some-none v named)
some_hung t u (rule ∷ rules) v (inl ((m, fit, breaks), e)) = (m, fit, inr breaks)
some_hung t u (rule ∷ rules) v (inr (kept, named)) = let (m, fit, fails) = some_hung t u rules v named in (m, fit, inl fails)

-- where no rule is named none of the messages that fit fails
none_fails : (t u : Tree) (behind : List Rule) → FirstIs (SomeBreaks t) behind None → Included t u → SomeFails t u behind → ⊥
none_fails t u [] none fitting (m, fit, unfit) = unfit (fitting m fit)
none_fails t u (rule ∷ rules) (inl ((m, fit, breaks), e)) fitting fails = absurd (some-none rule.verdict (sym e))
none_fails t u (rule ∷ rules) (inr (kept, none)) fitting (m, fit, inl fails) = none_fails t u rules none fitting (m, fit, fails)
none_fails t u (rule ∷ rules) (inr (kept, none)) fitting (m, fit, inr breaks) = kept (m, fit, breaks)

module _ (u : Tree) (formed : Formed u) (free : first_conflict_of u ≡ None) where
  conflict_free : ConflictFree u
  conflict_free = (none_exactly u).0 free

  pub names_exactly : (t : Tree) (behind : List Rule) (v : Option Verdict) → FirstIs (SomeBreaks t) (five u ++ behind) v → NamesExactly t u behind v
  names_exactly t behind None first =
      elim (first_split (SomeBreaks t) (five u) behind None first) [
        | inl (named, some) ↦ absurd (some refl)
        | inr (none, hung) ↦
            let fitting = (five_include t u formed conflict_free).0 none in
            (none_fails t u behind hung fitting, fitting)
      ]
  names_exactly t behind (Some v) first =
      elim (first_split (SomeBreaks t) (five u) behind (Some v) first) [
        | inl (named, some) ↦
            let (m, fit, unkept) = some_unkept t (five u) v named in
            (m, fit, fails_unfit u m behind (λ h. unkept ((five_exact u formed conflict_free m).1 h)))
        | inr (none, hung) ↦ some_hung t u behind v hung
      ]

  pub passes_exactly : (m : Message) (v : Option Verdict) → FirstIs (Breaks m) (five u) v → PassesExactly u m v
  passes_exactly m None first = (five_fit u m formed conflict_free).0 first
  passes_exactly m (Some v) first = λ fit. some-none v (one_answer (Breaks m) (five u) (Some v) None first ((five_fit u m formed conflict_free).1 fit))

-- the answers of compare and judge, where all their questions get a yes
model_is : (m : Model) (was : Option (List Part)) → was ≡ Some (parts_of m) → ModelIs was (tree_of m)
model_is m was is = (parts_of m, is, answered_ok (table_answer (parts_of m)) m.checked)

pub compare_ends : (behind : List Rule) (n : ℕ) (sent_was was : Option (List Part)) (s e : ℕ) (sent : Model) (expected : Expected) (v : Option Verdict)
    → compare_asked n sent_was was s e ≡ None → sent_was ≡ Some (parts_of sent) → was ≡ Some (parts_of expected.model)
    → FirstIs (SomeBreaks (tree_of sent)) (five (tree_of expected.model) ++ behind) v
    → CompareEnds behind n sent_was was s e (named included v)
compare_ends behind n sent_was was s e sent expected v asked sent_is is first =
    let t = tree_of sent in
    let u = tree_of expected.model in
    subst (λ q. Ends q (λ told. (t : Tree) × (u : Tree) × ModelIs sent_was t × ModelIs was u × ComparedTo t u behind told) (named included v)) (sym asked)
    (t, u, model_is sent sent_was sent_is, model_is expected.model was is, (v, refl, first, named_first (SomeBreaks t) (five u ++ behind) v first, names_exactly u (formed_of expected.model) expected.free t behind v first))

pub judge_ends : (n : ℕ) (was : Option (List Part)) (m : ℕ) (message : Message) (expected : Expected) (v : Option Verdict)
    → judge_asked n was m message ≡ None → was ≡ Some (parts_of expected.model)
    → FirstIs (Breaks message) (five (tree_of expected.model)) v
    → JudgeEnds n was m message (named fits v)
judge_ends n was m message expected v asked is first =
    let t = tree_of expected.model in
    subst (λ q. Ends q (λ told. (t : Tree) × ModelIs was t × JudgedBy t message told) (named fits v)) (sym asked)
    (t, model_is expected.model was is, (v, refl, first, named_first (Breaks message) (five t) v first, passes_exactly t (formed_of expected.model) expected.free message v first))
