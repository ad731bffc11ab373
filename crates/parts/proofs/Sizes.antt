-- How many symbols a set has: as many as the number has ones. Assumes nothing.
use Rattle.std.proofs.Common.{◌≡◌, ℕ, zero, suc, ◌+◌, ◌*◌, ◌%◌, ◌^◌, ◌<◌, ◌∷◌, [], cond, length, eqb, length-append, sym, refl, ap, ap₂, ◌∙◌, inl, inr, ◌⊎◌, arith}
use native.Mathlib.Nat.{pow-suc, mul_comm, mod-lt, mod-eq_of_lt, mod-one, add_comm}
use lib.Arith.{mod-mul}
use lib.Count.{ones, ones_cat}
use lib.Dec.{lit<}
use Rattle.std.specs.Int.{bit_at}
use Rattle.std.proofs.Math.Pow.{pow_pos}
use Rattle.std.proofs.lemmas.Bool.{cases_eq, cond-true, cond-false, eq-eqb, ne_eqb}
use Rattle.std.proofs.lemmas.Nat.Bits.{bit_at-lt}
use Rattle.parts.specs.Sets.{EmptyIs, symbols_below, members}

no_ones : ones 0 ≡ 0
unfolding ones
no_ones = refl

one_one : ones 1 ≡ 1
unfolding ones
one_one = refl

-- the symbol n, where its bit is 1
bit_size : (bit n : ℕ) → bit < 2 → length (cond (eqb bit 1) (n ∷ []) []) ≡ ones bit
bit_size bit n small =
    elim (cases_eq bit 1) [
      | inl e ↦ ap length (cond-true (eqb bit 1) (n ∷ []) [] (eq-eqb bit 1 e)) ∙ sym (ap ones e ∙ one_one)
      | inr ne ↦ let none : bit ≡ 0 = omega arith in ap length (cond-false (eqb bit 1) (n ∷ []) [] (ne_eqb bit 1 ne)) ∙ sym (ap ones none ∙ no_ones)
    ]

size_below : (n set : ℕ) → length (symbols_below n set) ≡ ones (set % 2 ^ n)
unfolding symbols_below
size_below zero set = sym (ap ones (mod-one set) ∙ no_ones)
size_below (suc n) set =
    let within = mod-lt set (pow_pos n) in
    let twice : 2 ^ suc n ≡ 2 * 2 ^ n = pow-suc 2 n ∙ mul_comm (2 ^ n) 2 in
    let digits : set % 2 ^ suc n ≡ bit_at set n * 2 ^ n + set % 2 ^ n = ap (λ m. set % m) twice ∙ mod-mul set (lit< tt) (pow_pos n) in
    let sizes = ap₂ (λ a b. a + b) (size_below n set) (bit_size (bit_at set n) n (bit_at-lt set n)) in
    let apart = ones_cat n (bit_at set n) (set % 2 ^ n) within in
    length-append _ _ ∙ sizes ∙ add_comm _ _ ∙ sym (ap ones digits ∙ apart)

pub size_is : (set : ℕ) → set < 2 ^ 64 → length (members set) ≡ ones set
size_is set small = size_below 64 set ∙ ap ones (mod-eq_of_lt small)

-- the list of the symbols below n is empty and no bit below n is 1, or it is not and some bit is
Below : ℕ → ℕ → Type 0
Below n set = ((length (symbols_below n set) ≡ 0) × ((s : ℕ) → s < n → bit_at set s ≡ 1 → ⊥)) ⊎ ((0 < length (symbols_below n set)) × ((s : ℕ) × (s < n) × (bit_at set s ≡ 1)))

one_more : (n set : ℕ) → length (symbols_below (suc n) set) ≡ length (symbols_below n set) + length (cond (eqb (bit_at set n) 1) (n ∷ []) [])
unfolding symbols_below
one_more n set = length-append _ _

below : (n set : ℕ) → Below n set
unfolding symbols_below Below
below zero set = inl (refl, λ s small bit. absurd (omega arith))
below (suc n) set = go (cases_eq (bit_at set n) 1) (below n set) (one_more n set)
  where
    go : (bit_at set n ≡ 1) ⊎ (bit_at set n ≡ 1 → ⊥) → Below n set → length (symbols_below (suc n) set) ≡ length (symbols_below n set) + length (cond (eqb (bit_at set n) 1) (n ∷ []) []) → Below (suc n) set
    go (inl e) known size =
        let here : length (cond (eqb (bit_at set n) 1) (n ∷ []) []) ≡ 1 = ap length (cond-true (eqb (bit_at set n) 1) (n ∷ []) [] (eq-eqb _ 1 e)) in
        inr (omega arith, (n, omega arith, e))
    go (inr ne) (inl (none, absent)) size =
        let gone : length (cond (eqb (bit_at set n) 1) (n ∷ []) []) ≡ 0 = ap length (cond-false (eqb (bit_at set n) 1) (n ∷ []) [] (ne_eqb _ 1 ne)) in
        inl (omega arith, λ s small bit. elim (cases_eq s n) [ inl e ↦ ne (ap (bit_at set) (sym e) ∙ bit) | inr other ↦ absent s (omega arith) bit ])
    go (inr ne) (inr (some, (s, small, bit))) size = inr (omega arith, (s, omega arith, bit))

-- a set of size 0 has no symbol, and any other has one
pub empty_by_size : (set : ℕ) → EmptyIs (eqb (length (members set)) 0) set
unfolding Below
empty_by_size set =
    elim (below 64 set) [
      | inl (e, none) ↦ rw (eq-eqb _ 0 e) (λ s (low, bit). none s (omega arith) bit)
      | inr (some, (s, small, bit)) ↦ rw (ne_eqb (length (members set)) 0 (λ e. omega arith)) (s, (omega arith, bit))
    ]
