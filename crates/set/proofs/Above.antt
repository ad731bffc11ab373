-- The first symbol above 63 of a message. Assumes nothing.
use Rattle.std.proofs.Common.{◌≡◌, ℕ, ◌+◌, ◌/◌, ◌%◌, ◌^◌, ◌<◌, ◌≤◌, true, [], ◌∷◌, ◌++◌, length, Some, None, refl, ap, ◌∙◌, inl, inr, eqb, arith}
use Rattle.std.proofs.lemmas.Bool.{agree_below_at, eqb-true, le-leb, lt-leb, cases_lt}
use Rattle.parts.specs.Sets.{In}
use Rattle.models.specs.Messages.{Message}
use Rattle.set.specs.Asking.{AllIn, FirstOutside}
use Rattle.set.specs.Questions.{first_above}

-- the set of all symbols, as a number
abbrev pub all : ℕ
all = 18446744073709551615

in_all : (s : ℕ) → s ≤ 63 → In all s
in_all s h = (h, eqb-true ((all / 2 ^ s) % 2) 1 (agree_below_at (λ i. eqb ((all / 2 ^ i) % 2) 1) (λ i. true) 64 s refl (omega (arith, h))))

outside_high : (s : ℕ) → (In all s → ⊥) → 63 < s
outside_high s out = elim (cases_lt 63 s) [ inl h ↦ h | inr low ↦ absurd (out (in_all s low)) ]

pub none_above : (k : ℕ) (m : Message) → AllIn all m → first_above k m ≡ None
none_above k [] every = refl
none_above k (s ∷ m) every = rw (le-leb s 63 ((every s (inl refl)).0)) (none_above (k + 1) m (λ x h. every x (inr h)))

one_above : (k : ℕ) (before : Message) (s : ℕ) (after : Message) → (In all s → ⊥) → AllIn all before → first_above k (before ++ (s ∷ after)) ≡ Some (k + length before)
one_above k [] s after out every = rw (lt-leb s 63 (outside_high s out)) (ap Some (omega arith))
one_above k (x ∷ before) s after out every =
    rw (le-leb x 63 ((every x (inl refl)).0)) (one_above (k + 1) before s after out (λ y h. every y (inr h)) ∙ ap Some (omega arith))

pub first_is_above : (m : Message) (j : ℕ) → FirstOutside all m (Some j) → first_above 0 m ≡ Some j
first_is_above m j (before, s, after, is, long, out, every) = ap (first_above 0) is ∙ one_above 0 before s after out every ∙ ap Some (omega (arith, long))
