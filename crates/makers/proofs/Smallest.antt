-- The smallest symbol of a set that is not shown. Assumes nothing.
use Rattle.std.proofs.Common.{◌≡◌, ℕ, zero, suc, ◌<◌, cond, eqb, ◌⊎◌, List, [], ◌∷◌, ◌++◌, Some, None, subst, inl, inr, arith}
use Rattle.std.proofs.lemmas.Bool.{cases_eq, cond-true, cond-false, eq-eqb, ne_eqb}
use Rattle.std.specs.Int.{bit_at}
use Rattle.parts.specs.Sets.{In, DifferenceIs, Taken, symbols_below}
use Rattle.parts.proofs.SymbolSets.{cases_in}
use Rattle.rules.specs.declared.verdict.Verdict.{Verdict}
use Rattle.makers.specs.Boards.{unshown}
use Rattle.makers.specs.Found.{FirstUnshown}

-- the list begins with the smallest symbol below n that is in the set, if there is one
abbrev BeginsSmallest : ℕ → ℕ → List ℕ → Type 0
BeginsSmallest set n [] = (i : ℕ) → i < n → bit_at set i ≡ 1 → ⊥
BeginsSmallest set n (s ∷ ss) = (s < n) × (bit_at set s ≡ 1) × ((i : ℕ) → i < s → bit_at set i ≡ 1 → ⊥)

listed_smallest : (set n : ℕ) → BeginsSmallest set n (symbols_below n set)
unfolding symbols_below
listed_smallest set zero = λ i low. absurd (omega arith)
listed_smallest set (suc n) = one_more (symbols_below n set) (listed_smallest set n) (cases_eq (bit_at set n) 1)
  where
    one_more : (xs : List ℕ) → BeginsSmallest set n xs → (bit_at set n ≡ 1) ⊎ (bit_at set n ≡ 1 → ⊥) → BeginsSmallest set (suc n) (xs ++ cond (eqb (bit_at set n) 1) (n ∷ []) [])
    one_more (x ∷ xs) (low, bit, least) h = (omega arith, bit, least)
    one_more [] none (inl bit) = rw (cond-true _ (n ∷ []) [] (eq-eqb _ 1 bit)) (omega arith, bit, none)
    one_more [] none (inr out) =
        rw (cond-false _ (n ∷ []) [] (ne_eqb _ 1 out))
        (λ i low bit. elim (cases_eq i n) [ inl e ↦ out (subst (λ k. bit_at set k ≡ 1) e bit) | inr ne ↦ none i (omega arith) bit ])

module _ (shown set missing rest : ℕ) (others : DifferenceIs set shown missing) where
  is_shown : (i : ℕ) → (bit_at missing i ≡ 1 → ⊥) → In set i → In shown i
  is_shown i out h = elim (cases_in shown i) [ inl has ↦ has | inr fails ↦ absurd (out ((others i).1 (h, fails)).1) ]

  pub none_unshown : Taken missing None rest → FirstUnshown shown set None
  unfolding FirstUnshown
  none_unshown (e, same) i h = is_shown i (subst (BeginsSmallest missing 64) e (listed_smallest missing 64) i (omega arith)) h

  pub one_unshown : (s : ℕ) (v : Verdict) → Taken missing (Some s) rest → v ≡ (unshown s).verdict → FirstUnshown shown set (Some v)
  unfolding FirstUnshown
  one_unshown s v e is =
      let (low, bit, least) = subst (BeginsSmallest missing 64) e (listed_smallest missing 64) in
      let (has, out) = (others s).0 (omega arith, bit) in
      (s, is, has, out, λ i less h. is_shown i (least i less) h)
