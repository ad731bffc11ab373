-- In which order symbols stand in messages that are put together. Assumes nothing.
use Rattle.std.proofs.Common.{ℕ, zero, suc, ◌≤◌, ◌⊎◌, [], ◌∷◌, ◌++◌, sym, subst, inl, inr, ⊎_elim, arith}
use Rattle.models.specs.Messages.{Message, Occurs, After, Shuffle, Joined}
use Rattle.models.specs.Messages.Shuffle.{done, left, right}
use Rattle.models.proofs.Occurrences.{Occurs-append, occurs_left, occurs_right, Occurs-Shuffle, Occurs-Joined}

module _ (a b : ℕ) where
  pub after_left : (m n : Message) → After a b m → After a b (m ++ n)
  after_left [] n h = absurd h
  after_left (x ∷ m) n (inl (e, h)) = inl (e, occurs_left a m n h)
  after_left (x ∷ m) n (inr h) = inr (after_left m n h)

  pub after_right : (m n : Message) → After a b n → After a b (m ++ n)
  after_right [] n h = h
  after_right (x ∷ m) n h = inr (after_right m n h)

  pub after_across : (m n : Message) → Occurs b m → Occurs a n → After a b (m ++ n)
  after_across [] n h g = absurd h
  after_across (x ∷ m) n (inl e) g = inl (e, occurs_right a m n g)
  after_across (x ∷ m) n (inr h) g = inr (after_across m n h g)

  pub After-append : (m n : Message) → After a b (m ++ n) → (After a b m ⊎ After a b n) ⊎ (Occurs b m × Occurs a n)
  After-append [] n h = inl (inr h)
  After-append (x ∷ m) n (inl (e, h)) = ⊎_elim (λ z. inl (inl (inl (e, z)))) (λ z. inr (inl e, z)) (Occurs-append a m n h)
  After-append (x ∷ m) n (inr h) =
      elim (After-append m n h) [
        | inl (inl z) ↦ inl (inl (inr z))
        | inl (inr z) ↦ inl (inr z)
        | inr (f, g) ↦ inr (inr f, g)
      ]

  -- in a shuffle the two may also stand in one each, whichever has the b
  abbrev pub Crossed : Message → Message → Type 0
  Crossed m n = (Occurs b m × Occurs a n) ⊎ (Occurs a m × Occurs b n)

  pub After-Shuffle : {m n k : Message} → Shuffle m n k → After a b k → (After a b m ⊎ After a b n) ⊎ Crossed m n
  After-Shuffle done h = absurd h
  After-Shuffle (left x s) (inl (e, h)) = ⊎_elim (λ z. inl (inl (inl (e, z)))) (λ z. inr (inl (inl e, z))) (Occurs-Shuffle a s h)
  After-Shuffle (left x s) (inr h) =
      elim (After-Shuffle s h) [
        | inl (inl z) ↦ inl (inl (inr z))
        | inl (inr z) ↦ inl (inr z)
        | inr (inl (f, g)) ↦ inr (inl (inr f, g))
        | inr (inr (f, g)) ↦ inr (inr (inr f, g))
      ]
  After-Shuffle (right x s) (inl (e, h)) = ⊎_elim (λ z. inr (inr (z, inl e))) (λ z. inl (inr (inl (e, z)))) (Occurs-Shuffle a s h)
  After-Shuffle (right x s) (inr h) =
      elim (After-Shuffle s h) [
        | inl (inl z) ↦ inl (inl z)
        | inl (inr z) ↦ inl (inr (inr z))
        | inr (inl (f, g)) ↦ inr (inl (f, inr g))
        | inr (inr (f, g)) ↦ inr (inr (f, inr g))
      ]

  -- one of the messages joined has it, or one has an a and another a b
  pub After-Joined : (P : Message → Type 0) (j : ℕ) (m : Message) → Joined P j m → After a b m
      → ((n : Message) × P n × After a b n) ⊎ ((((n : Message) × P n × Occurs a n) × ((n : Message) × P n × Occurs b n)) × (2 ≤ j))
  After-Joined P zero m e h = absurd (subst (After a b) e h)
  After-Joined P (suc j) m (u, v, e, p, q) h =
      elim (After-append u v (subst (After a b) (sym e) h)) [
        | inl (inl z) ↦ inl (u, p, z)
        | inl (inr z) ↦ ⊎_elim inl (λ (pieces, two). inr (pieces, omega (arith, two))) (After-Joined P j v q z)
        | inr (f, g) ↦ inr ((Occurs-Joined P a j v q g, (u, p, f)), later P j v q g)
      ]
    where
      later : (P : Message → Type 0) (j : ℕ) (v : Message) → Joined P j v → Occurs a v → 2 ≤ suc j
      later P zero v e g = absurd (subst (Occurs a) e g)
      later P (suc j) v q g = omega arith
