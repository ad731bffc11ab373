-- Which symbols stand in a set, a union and a set of one. Assumes nothing.
use Rattle.std.proofs.Common.{◌≡◌, ℕ, suc, ◌+◌, ◌-◌, ◌*◌, ◌/◌, ◌%◌, ◌^◌, ◌<◌, ◌≤◌, w64, max, leb, ◌⊎◌, sym, ap, ◌∙◌, subst, inl, inr, ⊎_elim, arith}
use native.Mathlib.Nat.{two-pow-succ, div-eq_of_lt, zero-div}
use lib.Bits.{bit_and, bit_or, or_shr, or_step}
use Rattle.std.specs.Int.{bit_at, bit_not}
use Rattle.std.proofs.lemmas.Nat.Bits.{bit_at_and, bit_at_not, bit_at-lt, same_from_bits_below}
use Rattle.std.proofs.lemmas.Nat.{pow-add, pow_below, shl-shr}
use Rattle.std.proofs.lemmas.Bool.{cases_eq, cases_Bool, cases_lt, cases_order, cond-true, cond-false, le-leb}
use Rattle.parts.specs.Sets.{In, DifferenceIs, only}

-- a bit of a union
or_bit : (a b s : ℕ) → (bit_or a b / 2 ^ s) % 2 ≡ max ((a / 2 ^ s) % 2) ((b / 2 ^ s) % 2)
or_bit a b s =
    let shifted = or_shr a b s in
    let step = or_step (a / 2 ^ s) (b / 2 ^ s) in
    omega arith

pub in_left : (a b s : ℕ) → In a s → In (bit_or a b) s
in_left a b s (low, bit) = (low, let union = or_bit a b s in omega arith)

pub in_right : (a b s : ℕ) → In b s → In (bit_or a b) s
in_right a b s (low, bit) = (low, let union = or_bit a b s in omega arith)

pub in_either : (a b s : ℕ) → In (bit_or a b) s → In a s ⊎ In b s
in_either a b s (low, bit) =
    let union = or_bit a b s in
    elim (cases_eq ((a / 2 ^ s) % 2) 1) [ inl e ↦ inl (low, e) | inr ne ↦ inr (low, omega arith) ]

pub cases_in : (set s : ℕ) → In set s ⊎ (In set s → ⊥)
cases_in set s =
    elim (cases_lt 63 s) [
      | inl high ↦ inr (λ (low, bit). omega arith)
      | inr low ↦ ⊎_elim (λ e. inl (low, e)) (λ ne. inr (λ i. ne i.1)) (cases_eq ((set / 2 ^ s) % 2) 1)
    ]

-- a power of two has one bit
below_bit : (x s k : ℕ) → x ≡ suc k + s → (2 ^ x / 2 ^ s) % 2 ≡ 0
below_bit x s k e =
    let whole : 2 ^ x ≡ 2 ^ suc k * 2 ^ s = ap (λ n. 2 ^ n) e ∙ pow-add 2 (suc k) s in
    let shifted : 2 ^ x / 2 ^ s ≡ 2 ^ suc k = ap (λ n. n / 2 ^ s) whole ∙ shl-shr (2 ^ suc k) s in
    let even = two-pow-succ k in
    omega arith

pub power_bit : (x s : ℕ) → (2 ^ x / 2 ^ s) % 2 ≡ 1 → x ≡ s
power_bit x s bit =
    elim (cases_order s x) [
      | inl e ↦ sym e
      | inr (inl lt) ↦
          let k = x - s - 1 in
          let even = below_bit x s k (omega arith) in
          absurd (omega arith)
      | inr (inr gt) ↦
          let none = div-eq_of_lt (pow_below x s gt) in
          absurd (omega arith)
    ]

pub in_one : (x : ℕ) → x ≤ 63 → In (2 ^ x) x
in_one x low =
    let one : 2 ^ x / 2 ^ x ≡ 1 = ap (λ n. n / 2 ^ x) (omega arith) ∙ shl-shr 1 x in
    (low, omega arith)

pub in_none : (s : ℕ) → In 0 s → ⊥
in_none s (low, bit) = let none = zero-div (2 ^ s) in omega arith

-- the set of one symbol has that symbol alone, if it is one
pub in_only : (x s : ℕ) → In (only x) s → x ≡ s
in_only x s h =
    elim (cases_Bool (leb x 63)) [
      | inl low ↦ power_bit x s (subst (λ n. In n s) (cond-true _ (2 ^ x) 0 low) h).1
      | inr high ↦ absurd (in_none s (subst (λ n. In n s) (cond-false _ (2 ^ x) 0 high) h))
    ]

pub only_in : (s : ℕ) → s ≤ 63 → In (only s) s
only_in s low = subst (λ n. In n s) (sym (cond-true _ (2 ^ s) 0 (le-leb s 63 low))) (in_one s low)

-- of the symbols of both, and of those that the other has not
pub in_both : (a b s : ℕ) → In (bit_and a b) s → In a s × In b s
in_both a b s (low, bit) = let both = bit_at_and a b s in ((low, omega arith), (low, omega arith))

pub both_in : (a b s : ℕ) → In a s → In b s → In (bit_and a b) s
both_in a b s (low, x) (_, y) = (low, let both = bit_at_and a b s in omega arith)

pub difference_is : (a b : ℕ) → b < 2 ^ 64 → DifferenceIs a b (bit_and a (bit_not w64 b))
difference_is a b small s = (
  (λ (low, bit).
      let both = bit_at_and a (bit_not w64 b) s in
      let other = bit_at_not w64 b s small (omega arith) in
      ((low, omega arith), (λ (_, has). omega arith))),
  (λ ((low, bit), none).
      let both = bit_at_and a (bit_not w64 b) s in
      let other = bit_at_not w64 b s small (omega arith) in
      elim (cases_eq (bit_at b s) 1) [ inl e ↦ absurd (none (low, e)) | inr ne ↦ (low, omega arith) ]),
)

-- two sets with the same symbols are one set
pub same_set : (a b : ℕ) → a < 2 ^ 64 → b < 2 ^ 64 → ((s : ℕ) → (In a s → In b s) × (In b s → In a s)) → a ≡ b
same_set a b x y same = same_from_bits_below 64 a b x y (λ s small. go s small (same s) (bit_at-lt a s) (bit_at-lt b s))
  where
    go : (s : ℕ) → s < 64 → (In a s → In b s) × (In b s → In a s) → bit_at a s < 2 → bit_at b s < 2 → bit_at a s ≡ bit_at b s
    go s small (f, g) p q =
        elim (cases_eq (bit_at a s) 1) [
          | inl e ↦ e ∙ sym (f (omega arith, e)).1
          | inr ne ↦ elim (cases_eq (bit_at b s) 1) [ inl e ↦ absurd (ne (g (omega arith, e)).1) | inr nf ↦ omega arith ]
        ]

-- a set with a symbol is not 0
pub in_some : (set : ℕ) → (s : ℕ) × In set s → 0 < set
in_some set (s, has) = elim (cases_eq set 0) [ inl e ↦ absurd (in_none s (subst (λ n. In n s) e has)) | inr ne ↦ omega arith ]
