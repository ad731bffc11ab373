-- What a sequence and an interleave have in common. Assumes nothing.
use Rattle.std.proofs.Common.{◌≡◌, ◌⊎◌, [], ◌++◌, refl, subst, inl, inr}
use Rattle.models.specs.Messages.{Message, Shuffle}
use Rattle.models.specs.Messages.Shuffle.{done, left, right}
use Rattle.models.specs.Trees.{Tree, Fits}
use Rattle.models.specs.Trees.Tree.{sequence, interleave}
use Rattle.models.proofs.Occurrences.{Shuffle-append}
use Rattle.models.proofs.Unlike.{cons-nil}

-- a message of L and one of R, put together
abbrev pub Together : (Message → Message → Message → Type 0) → (Message → Type 0) → (Message → Type 0) → Message → Type 0
Together put L R m = (a : Message) × (b : Message) × put a b m × L a × R b

-- putting together always gives a shuffle, and one after the other is among them
pub record Mixes (put : Message → Message → Message → Type 0) : Type 0 where
  pub shuffled : (a b m : Message) → put a b m → Shuffle a b m
  pub appended : (a b : Message) → put a b (a ++ b)

-- the messages of the form are those of its sides put together
pub record Sides (put : Message → Message → Message → Type 0) (form : Tree → Tree → Tree) : Type 0 where
  pub mixes : Mixes put
  pub apart : (l r : Tree) (m : Message) → Fits (form l r) m → Together put (Fits l) (Fits r) m
  pub made : (l r : Tree) (m : Message) → Together put (Fits l) (Fits r) m → Fits (form l r) m

pub sequence_sides : Sides (λ a b m. a ++ b ≡ m) sequence
sequence_sides = record {
  mixes = record { shuffled = λ a b m e. subst (Shuffle a b) e (Shuffle-append a b); appended = λ a b. refl };
  apart = λ l r m f. f;
  made = λ l r m f. f;
}

pub interleave_sides : Sides Shuffle interleave
interleave_sides = record {
  mixes = record { shuffled = λ a b m s. s; appended = Shuffle-append };
  apart = λ l r m f. f;
  made = λ l r m f. f;
}

-- a shuffle is nonempty exactly where one of the two is
pub shuffle_nonempty : {a b m : Message} → Shuffle a b m → (m ≡ [] → ⊥) → (a ≡ [] → ⊥) ⊎ (b ≡ [] → ⊥)
shuffle_nonempty done ne = absurd (ne refl)
shuffle_nonempty (left {a} x s) ne = inl (cons-nil x a)
shuffle_nonempty (right {a} {b} x s) ne = inr (cons-nil x b)

pub nonempty_left : {a b m : Message} → Shuffle a b m → (a ≡ [] → ⊥) → m ≡ [] → ⊥
nonempty_left done ne = ne
nonempty_left (left {a} {b} {m} x s) ne = cons-nil x m
nonempty_left (right {a} {b} {m} x s) ne = cons-nil x m

pub nonempty_right : {a b m : Message} → Shuffle a b m → (b ≡ [] → ⊥) → m ≡ [] → ⊥
nonempty_right done ne = ne
nonempty_right (left {a} {b} {m} x s) ne = cons-nil x m
nonempty_right (right {a} {b} {m} x s) ne = cons-nil x m
