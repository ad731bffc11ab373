-- Whether some message of a model has a symbol too seldom or too often. Assumes nothing.
use Rattle.std.proofs.Common.{◌≡◌, ℕ, ◌+◌, ◌<◌, ◌≤◌, ◌⊎◌, Bool, false, Decides, Some, refl, ap, inl, inr, ⊎_elim, arith}
use Rattle.std.proofs.lemmas.Bool.{cases_eq, cases_lt, cases_Bool, both_ways, false≢true}
use Rattle.parts.specs.declared.part.Repeats.{Repeats}
use Rattle.models.specs.Messages.{Message, occurrences}
use Rattle.models.specs.Trees.{Tree, Fits, Bounds}
use Rattle.models.proofs.Counted.{some_counted}
use Rattle.rules.specs.Rules.{SomeBreaks}
use Rattle.occurrences.specs.Figures.{figure, FewestIs, MostIs}
use Rattle.occurrences.specs.declared.figure.Figure.{Figure}
use Rattle.occurrences.specs.declared.figure.Most.{Most}
use Rattle.occurrences.specs.declared.figure.Most.TheVariants.{Ends, NoEnd}
use Rattle.set.specs.Five.{cardinality}

module _ (s : ℕ) (t : Tree) (bounds : Repeats) where
  -- one that has it more often than a high that is not 0
  too_many : 0 < bounds.high → (m : Message) → Fits t m → bounds.high < occurrences s m → SomeBreaks t (cardinality s bounds)
  too_many some m fit more = (m, fit, λ kept. ⊎_elim (λ e. omega arith) (λ h. omega arith) (kept (some_counted s m (omega arith))).1)

  module _ (f : Figure) (above : Bool) (bounded : Bounds bounds.low bounds.high) (fewest : FewestIs s t (Some f)) (enough : (n : ℕ) → bounds.low ≤ 10000 → f ≡ figure n → Decides false (n < bounds.low)) where
    -- where the fewest are enough and the most not too many, none breaks it
    none_breaks : ((m : Message) → Fits t m → (bounds.high ≡ 0) ⊎ (occurrences s m ≤ bounds.high)) → SomeBreaks t (cardinality s bounds) → ⊥
    none_breaks few (m, fit, breaks) =
        let (n, e, (_, least)) = fewest in
        let (_, not_few) = enough n bounded.1 e in
        breaks (λ h. (⊎_elim (λ lt. absurd (false≢true (not_few lt))) (λ ge. let l = least m fit h in omega arith) (cases_lt n bounds.low), few m fit))

    high_known : bounds.high ≤ 10000
    high_known = ⊎_elim (λ e. omega arith) (λ h. h.1) bounded.2

    -- whether it is broken, where the most is told to be too many or not
    pub too_many_breaks : (most : Most) → MostIs s t most
        → ((n : ℕ) → bounds.high ≤ 10000 → most ≡ Ends (figure n) → Decides above ((0 < bounds.high) × (bounds.high < n))) → (most ≡ NoEnd → Decides above (0 < bounds.high))
        → Decides above (SomeBreaks t (cardinality s bounds))
    too_many_breaks (Ends g) (n, e, ((m, fit, has), largest)) ends endless =
        let (asked, broken_so) = ends n high_known (ap Ends e) in (
          (λ b. let (some, more) = asked b in too_many some m fit (omega arith)),
          (λ broken. elim (cases_Bool above) [
            | inl b ↦ b
            | inr b ↦ absurd (none_breaks (λ x f. elim (cases_eq bounds.high 0) [
              | inl z ↦ inl z
              | inr nz ↦ inr (⊎_elim (λ lt. absurd (both_ways above b (broken_so (omega arith, lt)))) (λ ge. let l = largest x f in omega arith) (cases_lt bounds.high n))
            ]) broken)
          ]),
        )
    too_many_breaks NoEnd more ends endless =
        let (asked, broken_so) = endless refl in (
          (λ b. let (m, fit, has) = more (bounds.high + 1) in too_many (asked b) m fit (omega arith)),
          (λ broken. elim (cases_Bool above) [
            | inl b ↦ b
            | inr b ↦ absurd (none_breaks (λ x f. elim (cases_eq bounds.high 0) [
              | inl z ↦ inl z
              | inr nz ↦ absurd (both_ways above b (broken_so (omega arith)))
            ]) broken)
          ]),
        )
