-- Where a text stops to begin as a word does. Assumes nothing.
use Rattle.std.proofs.Common.{◌≡◌, ℕ, suc, ◌+◌, ◌<◌, ◌≤◌, Bool, true, false, cond, List, [], ◌∷◌, ◌++◌, length, take, drop, take_all, length-drop, refl, ◌⊎◌, inl, inr, ap, sym, subst, ◌∙◌, arith}
use Rattle.std.specs.Prelude.{◌==◌}
use Rattle.std.specs.List.{starts_with}
use Rattle.std.proofs.Math.Dec.{eqb}
use Rattle.std.proofs.lemmas.Bool.{cases_lt, false≢true, eqb-true}
use Rattle.std.proofs.lemmas.Bool.Decides.{nat_tests, Decides-eqb}
use Rattle.std.proofs.lemmas.Slice.Eq.{starts_is}
use Rattle.text.specs.Fronts.{agreed, Differs}

abbrev Stops : List ℕ → List ℕ → Type 0
Stops [] text = Unit {0}
Stops (c ∷ word) text = Differs (c ∷ word) text

-- n bytes of the word stand at the front, and the next one does not
pub record Parted (word : List ℕ) (text : List ℕ) (n : ℕ) : Type 0 where
  pub within : n ≤ length word
  pub fits : n ≤ length text
  pub same : text ≡ take n word ++ drop n text
  pub stops : Stops (drop n word) (drop n text)

swapped : (a b : ℕ) → (a == b) ≡ false → (b == a) ≡ false
swapped a b e = grind (arith, nat_tests)

parted_step : (c b : ℕ) (word text : List ℕ) → Parted word text (agreed word text) → (r : Bool) → (c == b) ≡ r → Parted (c ∷ word) (b ∷ text) (cond r (1 + agreed word text) 0)
parted_step c b word text h true e =
    let one : suc (agreed word text) ≡ 1 + agreed word text = omega arith in
    subst (Parted (c ∷ word) (b ∷ text)) one
    (record { within = omega (arith, h.within); fits = omega (arith, h.fits); same = ap (λ x. x ∷ text) (sym (eqb-true c b e)) ∙ ap (λ xs. c ∷ xs) h.same; stops = h.stops })
parted_step c b word text h false e = record { within = omega arith; fits = omega arith; same = refl; stops = swapped c b e }

pub parted : (word text : List ℕ) → Parted word text (agreed word text)
parted [] text = record { within = omega arith; fits = omega arith; same = refl; stops = tt }
parted (c ∷ word) [] = record { within = omega arith; fits = omega arith; same = refl; stops = tt }
parted (c ∷ word) (b ∷ text) = parted_step c b word text (parted word text) (c == b) refl

differs : (left text : List ℕ) → 0 < length left → Stops left text → Differs left text
differs [] text some h = absurd (omega arith)
differs (c ∷ left) text some h = h

whole : (word : List ℕ) (n : ℕ) → length word ≤ n → take n word ≡ word
whole word n le = take_all n word le

pub differs_at : (word text : List ℕ) (n : ℕ) {r : Bool} → Parted word text n → r ≡ starts_with eqb text word → r ≡ false → Differs (drop n word) (drop n text)
differs_at word text n {r} p is not = by (cases_lt n (length word))
  where
    all : length word ≤ n → ⊥
    all le = false≢true (sym not ∙ (starts_is Decides-eqb text word r is).1 (drop n text) (p.same ∙ ap (λ xs. xs ++ drop n text) (whole word n le)))

    by : (n < length word) ⊎ (length word ≤ n) → Differs (drop n word) (drop n text)
    by (inl lt) = differs (drop n word) (drop n text) (omega (arith, length-drop n word)) p.stops
    by (inr le) = absurd (all le)
