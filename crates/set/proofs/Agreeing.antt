-- Messages that agree on the symbols of a tree, as a piece and what it is shuffled into do. Assumes nothing.
use Rattle.std.proofs.Common.{◌≡◌, ℕ, ◌⊎◌, [], ◌∷◌, sym, refl, subst, inl, inr, ⊎_elim, arith}
use Rattle.models.specs.Conflicts.{Apart}
use Rattle.models.specs.Messages.{Message, Occurs, occurrences, After, Shuffle}
use Rattle.models.specs.Messages.Shuffle.{done, left, right}
use Rattle.models.specs.Trees.{Tree, Stands}
use Rattle.models.proofs.Counted.{counted_some, some_counted, counted_none, counted_shuffle}
use Rattle.models.proofs.Occurrences.{shuffle_occurs_left}
use Rattle.models.proofs.Ordered.{After-Shuffle}
use Rattle.set.proofs.Holding.{Within}

pub shuffle_swap : {a b m : Message} → Shuffle a b m → Shuffle b a m
shuffle_swap done = done
shuffle_swap (left x s) = right x (shuffle_swap s)
shuffle_swap (right x s) = left x (shuffle_swap s)

pub after_first : (a b : ℕ) (m : Message) → After a b m → Occurs a m
after_first a b [] h = absurd h
after_first a b (x ∷ m) (inl (e, h)) = inr h
after_first a b (x ∷ m) (inr h) = inr (after_first a b m h)

pub after_second : (a b : ℕ) (m : Message) → After a b m → Occurs b m
after_second a b [] h = absurd h
after_second a b (x ∷ m) (inl (e, h)) = inl e
after_second a b (x ∷ m) (inr h) = inr (after_second a b m h)

after_shuffle : (x y : ℕ) {a b m : Message} → Shuffle a b m → After x y a → After x y m
after_shuffle x y done h = h
after_shuffle x y (left z s) (inl (e, h)) = inl (e, shuffle_occurs_left x s h)
after_shuffle x y (left z s) (inr h) = inr (after_shuffle x y s h)
after_shuffle x y (right z s) h = inr (after_shuffle x y s h)

-- the symbols of the tree stand in both as often, and in the same order
pub record Agree (t : Tree) (n m : Message) : Type 0 where
  pub counts : (s : ℕ) → Stands t s → occurrences s n ≡ occurrences s m
  pub later : (a b : ℕ) → Stands t a → Stands t b → After a b n → After a b m
  pub earlier : (a b : ℕ) → Stands t a → Stands t b → After a b m → After a b n

pub agree_back : (t : Tree) (n m : Message) → Agree t n m → Agree t m n
agree_back t n m g = record { counts = λ s p. sym (g.counts s p); later = g.earlier; earlier = g.later }

pub agree_occurs : (t : Tree) (n m : Message) → Agree t n m → (s : ℕ) → Stands t s → Occurs s n → Occurs s m
agree_occurs t n m g s p h = let some = counted_some s n h in let same = g.counts s p in some_counted s m (omega arith)

-- a piece agrees with the whole where nothing of the tree stands in the other piece
pub agree_piece : (l r : Tree) (a b m : Message) → Apart l r → Shuffle a b m → Within r b → Agree l a m
agree_piece l r a b m apart s w = record {
  counts = λ x p.
      let both = counted_shuffle x s in
      let none = counted_none x b (λ h. apart x p (w x h)) in
      omega arith;
  later = λ x y p q h. after_shuffle x y s h;
  earlier = λ x y p q h.
      elim (After-Shuffle x y s h) [
        | inl (inl z) ↦ z
        | inl (inr z) ↦ absurd (apart x p (w x (after_first x y b z)))
        | inr (inl (f, g)) ↦ absurd (apart x p (w x g))
        | inr (inr (f, g)) ↦ absurd (apart y q (w y g))
      ];
}

-- a message of symbols of two trees is shuffled from one of each
abbrev pub Parted : Tree → Tree → Message → Type 0
Parted l r m = (a : Message) × (b : Message) × Shuffle a b m × Within l a × Within r b

first_within : (t : Tree) (x : ℕ) (a : Message) → Stands t x → Within t a → Within t (x ∷ a)
first_within t x a p w s h = ⊎_elim (λ e. subst (Stands t) e p) (w s) h

pub parted : (l r : Tree) (m : Message) → ((s : ℕ) → Occurs s m → Stands l s ⊎ Stands r s) → Parted l r m
parted l r [] w = ([], [], done, (λ s h. absurd h), (λ s h. absurd h))
parted l r (x ∷ m) w =
    let (a, b, s, u, v) = parted l r m (λ y h. w y (inr h)) in
    elim (w x (inl refl)) [
      | inl p ↦ (x ∷ a, b, left x s, first_within l x a p u, v)
      | inr p ↦ (a, x ∷ b, right x s, u, first_within r x b p v)
    ]
