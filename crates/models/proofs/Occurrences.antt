-- Which symbols stand in messages that are put together, and that they can be put together. Assumes nothing.
use Rattle.std.proofs.Common.{ℕ, zero, suc, ◌≤◌, ◌⊎◌, [], ◌∷◌, ◌++◌, sym, refl, subst, inl, inr, ⊎_elim, arith}
use Rattle.models.specs.Messages.{Message, Occurs, Shuffle, Joined}
use Rattle.models.specs.Messages.Shuffle.{done, left, right}

pub Occurs-append : (s : ℕ) (a b : Message) → Occurs s (a ++ b) → Occurs s a ⊎ Occurs s b
Occurs-append s [] b h = inr h
Occurs-append s (x ∷ a) b (inl e) = inl (inl e)
Occurs-append s (x ∷ a) b (inr h) = ⊎_elim (λ z. inl (inr z)) inr (Occurs-append s a b h)

pub occurs_left : (s : ℕ) (a b : Message) → Occurs s a → Occurs s (a ++ b)
occurs_left s [] b h = absurd h
occurs_left s (x ∷ a) b (inl e) = inl e
occurs_left s (x ∷ a) b (inr h) = inr (occurs_left s a b h)

pub occurs_right : (s : ℕ) (a b : Message) → Occurs s b → Occurs s (a ++ b)
occurs_right s [] b h = h
occurs_right s (x ∷ a) b h = inr (occurs_right s a b h)

pub Occurs-Shuffle : (s : ℕ) {a b m : Message} → Shuffle a b m → Occurs s m → Occurs s a ⊎ Occurs s b
Occurs-Shuffle s done h = inl h
Occurs-Shuffle s (left x f) (inl e) = inl (inl e)
Occurs-Shuffle s (left x f) (inr h) = ⊎_elim (λ z. inl (inr z)) inr (Occurs-Shuffle s f h)
Occurs-Shuffle s (right x f) (inl e) = inr (inl e)
Occurs-Shuffle s (right x f) (inr h) = ⊎_elim inl (λ z. inr (inr z)) (Occurs-Shuffle s f h)

pub shuffle_occurs_left : (s : ℕ) {a b m : Message} → Shuffle a b m → Occurs s a → Occurs s m
shuffle_occurs_left s done h = h
shuffle_occurs_left s (left x f) (inl e) = inl e
shuffle_occurs_left s (left x f) (inr h) = inr (shuffle_occurs_left s f h)
shuffle_occurs_left s (right x f) h = inr (shuffle_occurs_left s f h)

pub shuffle_occurs_right : (s : ℕ) {a b m : Message} → Shuffle a b m → Occurs s b → Occurs s m
shuffle_occurs_right s done h = h
shuffle_occurs_right s (left x f) h = inr (shuffle_occurs_right s f h)
shuffle_occurs_right s (right x f) (inl e) = inl e
shuffle_occurs_right s (right x f) (inr h) = inr (shuffle_occurs_right s f h)

-- one of the messages joined has the symbol
pub Occurs-Joined : (P : Message → Type 0) (s j : ℕ) (m : Message) → Joined P j m → Occurs s m → (a : Message) × P a × Occurs s a
Occurs-Joined P s zero m e h = absurd (subst (Occurs s) e h)
Occurs-Joined P s (suc j) m (a, b, e, p, q) h =
    ⊎_elim (λ z. (a, p, z)) (λ z. Occurs-Joined P s j b q z) (Occurs-append s a b (subst (Occurs s) (sym e) h))

shuffle_right : (b : Message) → Shuffle [] b b
shuffle_right [] = done
shuffle_right (x ∷ b) = right x (shuffle_right b)

-- one message after the other is a shuffle of the two
pub Shuffle-append : (a b : Message) → Shuffle a b (a ++ b)
Shuffle-append [] b = shuffle_right b
Shuffle-append (x ∷ a) b = left x (Shuffle-append a b)

shuffle_left : (a : Message) → Shuffle a [] a
shuffle_left [] = done
shuffle_left (x ∷ a) = left x (shuffle_left a)

-- and so it is the other way round
pub Shuffle-append_back : (a b : Message) → Shuffle a b (b ++ a)
Shuffle-append_back a [] = shuffle_left a
Shuffle-append_back a (x ∷ b) = right x (Shuffle-append_back a b)

-- a message repeated
abbrev pub repeated : ℕ → Message → Message
repeated zero m = []
repeated (suc j) m = m ++ repeated j m

pub joined_repeated : (P : Message → Type 0) (m : Message) → P m → (j : ℕ) → Joined P j (repeated j m)
joined_repeated P m p zero = refl
joined_repeated P m p (suc j) = (m, repeated j m, refl, p, joined_repeated P m p j)

pub occurs_repeated : (s j : ℕ) (m : Message) → Occurs s (repeated j m) → Occurs s m
occurs_repeated s zero m h = absurd h
occurs_repeated s (suc j) m h = ⊎_elim (λ z. z) (occurs_repeated s j m) (Occurs-append s m (repeated j m) h)

pub repeated_occurs : (s j : ℕ) (m : Message) → 1 ≤ j → Occurs s m → Occurs s (repeated j m)
repeated_occurs s zero m some h = absurd (omega arith)
repeated_occurs s (suc j) m some h = occurs_left s m (repeated j m) h
