-- The smallest symbol of a set, and the set without it. Assumes nothing.
use Rattle.std.proofs.Common.{◌≡◌, ℕ, zero, suc, ◌<◌, ◌≤◌, [], ◌∷◌, ◌++◌, eqb, sym, refl, ap, ap₂, ◌∙◌, ⊎_elim, inl, inr, arith}
use Rattle.std.proofs.lemmas.Bool.{cases_eq, cond-true, cond-false, eq-eqb, ne_eqb}
use Rattle.std.proofs.lemmas.Nat.Bits.{bit_at-lt}
use Rattle.std.specs.Int.{bit_at}
use Rattle.parts.specs.Sets.{In, symbols_below}

-- no symbol below n
pub none_below : (set n : ℕ) → ((i : ℕ) → i < n → bit_at set i ≡ 0) → symbols_below n set ≡ []
unfolding symbols_below
none_below set zero none = refl
none_below set (suc n) none =
    let here = none n (omega arith) in
    rw (none_below set n (λ i less. none i (omega arith))) (cond-false _ (n ∷ []) [] (ne_eqb (bit_at set n) 1 (omega arith)))

pub none_in : (set : ℕ) → ((s : ℕ) → In set s → ⊥) → symbols_below 64 set ≡ []
none_in set none = none_below set 64 (λ i less. let bit = bit_at-lt set i in elim (cases_eq (bit_at set i) 1) [ inl e ↦ absurd (none i (omega arith, e)) | inr ne ↦ omega arith ])

module _ (set new k : ℕ) (here : bit_at set k ≡ 1) (below : (i : ℕ) → i < k → bit_at set i ≡ 0) (gone : bit_at new k ≡ 0) (same : (i : ℕ) → i < 64 → (i ≡ k → ⊥) → bit_at new i ≡ bit_at set i) where
  none_new : (n : ℕ) → n ≤ suc k → n ≤ 64 → symbols_below n new ≡ []
  none_new n few small =
      none_below new n (λ i less. ⊎_elim (λ e. ap (bit_at new) e ∙ gone) (λ ne. same i (omega arith) ne ∙ below i (omega arith)) (cases_eq i k))

  pub first_below : (n : ℕ) → n ≤ 64 → k < n → symbols_below n set ≡ k ∷ symbols_below n new
  unfolding symbols_below
  first_below zero small more = absurd (omega arith)
  first_below (suc n) small more =
      elim (cases_eq n k) [
        | inl e ↦
            let none = none_below set n (λ i less. below i (omega arith)) in
            let one = cond-true (eqb (bit_at set n) 1) (n ∷ []) [] (eq-eqb _ 1 (ap (bit_at set) e ∙ here)) in
            ap₂ (λ xs ys. xs ++ ys) none one ∙ ap (λ x. x ∷ []) e ∙ ap (λ xs. k ∷ xs) (sym (none_new (suc n) (omega arith) small))
        | inr ne ↦
            let rest = first_below n (omega arith) (omega arith) in
            let bit = same n (omega arith) ne in
            rw (rest, bit) refl
      ]
