-- How often a symbol stands in messages that are put together. Assumes nothing.
use Rattle.std.proofs.Common.{◌≡◌, ℕ, zero, suc, ◌+◌, ◌*◌, ◌≤◌, [], ◌∷◌, ◌++◌, sym, refl, ap, ◌∙◌, subst, inl, inr, suc-mul, zero-mul, arith}
use Rattle.std.proofs.lemmas.Bool.{cases_eq, eq-eqb, ne_eqb}
use Rattle.models.specs.Messages.{Message, Occurs, occurrences, Shuffle, Joined}
use Rattle.models.specs.Messages.Shuffle.{done, left, right}
use Rattle.models.proofs.Occurrences.{repeated}

-- the first symbol counts, or not
pub counted_same : (s x : ℕ) (m : Message) → x ≡ s → occurrences s (x ∷ m) ≡ suc (occurrences s m)
counted_same s x m e = let t = eq-eqb x s e in rw t

pub counted_other : (s x : ℕ) (m : Message) → (x ≡ s → ⊥) → occurrences s (x ∷ m) ≡ occurrences s m
counted_other s x m ne = let t = ne_eqb x s ne in rw t

-- one that has the symbol has it at least once, and one that has it not never
pub counted_some : (s : ℕ) (m : Message) → Occurs s m → 1 ≤ occurrences s m
counted_some s [] h = absurd h
counted_some s (x ∷ m) (inl e) = let c = counted_same s x m e in omega arith
counted_some s (x ∷ m) (inr h) =
    let more = counted_some s m h in
    elim (cases_eq x s) [ inl e ↦ let c = counted_same s x m e in omega arith | inr ne ↦ let c = counted_other s x m ne in omega arith ]

pub some_counted : (s : ℕ) (m : Message) → 1 ≤ occurrences s m → Occurs s m
some_counted s [] h = absurd (omega arith)
some_counted s (x ∷ m) h = elim (cases_eq x s) [ inl e ↦ inl e | inr ne ↦ inr (some_counted s m (let c = counted_other s x m ne in omega arith)) ]

pub counted_none : (s : ℕ) (m : Message) → (Occurs s m → ⊥) → occurrences s m ≡ 0
counted_none s m ne = elim (cases_eq (occurrences s m) 0) [ inl e ↦ e | inr some ↦ absurd (ne (some_counted s m (omega arith))) ]

-- one more symbol in front of two messages
counted_more : (s x k : ℕ) (m n : Message) → occurrences s n ≡ occurrences s m + k → occurrences s (x ∷ n) ≡ occurrences s (x ∷ m) + k
counted_more s x k m n h =
    elim (cases_eq x s) [
      | inl e ↦ let c = counted_same s x m e in let d = counted_same s x n e in omega arith
      | inr ne ↦ let c = counted_other s x m ne in let d = counted_other s x n ne in omega arith
    ]

pub counted_append : (s : ℕ) (a b : Message) → occurrences s (a ++ b) ≡ occurrences s a + occurrences s b
counted_append s [] b = omega arith
counted_append s (x ∷ a) b = counted_more s x (occurrences s b) a (a ++ b) (counted_append s a b)

pub counted_shuffle : (s : ℕ) {a b m : Message} → Shuffle a b m → occurrences s m ≡ occurrences s a + occurrences s b
counted_shuffle s done = refl
counted_shuffle s (left {a} {b} {m} x f) = counted_more s x (occurrences s b) a m (counted_shuffle s f)
counted_shuffle s (right {a} {b} {m} x f) =
    let rest = counted_shuffle s f in
    let more = counted_more s x (occurrences s a) b m (omega arith) in
    omega arith

pub counted_repeated : (s j : ℕ) (m : Message) → occurrences s (repeated j m) ≡ j * occurrences s m
counted_repeated s zero m = let none = zero-mul (occurrences s m) in omega arith
counted_repeated s (suc j) m =
    let more = counted_repeated s j m in
    let both = counted_append s m (repeated j m) in
    let times = suc-mul j (occurrences s m) in
    omega arith

-- bounds for messages joined, from bounds for each
module _ (s n : ℕ) (P : Message → Type 0) where
  pub joined_most : ((a : Message) → P a → occurrences s a ≤ n) → (j : ℕ) (m : Message) → Joined P j m → occurrences s m ≤ j * n
  joined_most f zero m e = subst (λ x. occurrences s x ≤ zero * n) (sym e) (let none = zero-mul n in omega arith)
  joined_most f (suc j) m (a, b, e, p, q) =
      let first = f a p in
      let more = joined_most f j b q in
      let both = counted_append s a b in
      let times = suc-mul j n in
      subst (λ x. occurrences s x ≤ suc j * n) e (omega arith)

  pub joined_least : ((a : Message) → P a → n ≤ occurrences s a) → (j : ℕ) (m : Message) → Joined P j m → j * n ≤ occurrences s m
  joined_least f zero m e = let none = zero-mul n in omega arith
  joined_least f (suc j) m (a, b, e, p, q) =
      let first = f a p in
      let more = joined_least f j b q in
      let both = counted_append s a b in
      let times = suc-mul j n in
      subst (λ x. suc j * n ≤ occurrences s x) e (omega arith)

  -- one piece that has the symbol is enough
  pub joined_some : ((a : Message) → P a → 1 ≤ occurrences s a → n ≤ occurrences s a)
      → (j : ℕ) (m : Message) → Joined P j m → 1 ≤ occurrences s m → n ≤ occurrences s m
  joined_some f zero m e h = absurd (let none : occurrences s m ≡ 0 = ap (occurrences s) e in omega arith)
  joined_some f (suc j) m (a, b, e, p, q) h =
      let both : occurrences s m ≡ occurrences s a + occurrences s b = ap (occurrences s) (sym e) ∙ counted_append s a b in
      elim (cases_eq (occurrences s a) 0) [
        | inl none ↦ let more = joined_some f j b q (omega arith) in omega arith
        | inr some ↦ let first = f a p (omega arith) in omega arith
      ]
