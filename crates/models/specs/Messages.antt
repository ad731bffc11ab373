-- Messages, what stands in them, and how they are put together. Assumes nothing.
use Rattle.std.specs.Prelude.{◌≡◌, ℕ, zero, suc, cond, ◌⊎◌, List, [], ◌∷◌, ◌++◌, ◌==◌}
use Rattle.parts.specs.Sets.{In}

-- a row of symbols
abbrev pub Message : Type 0
Message = List ℕ

-- the symbol s stands in the message
abbrev pub Occurs : ℕ → Message → Type 0
Occurs s [] = ⊥
Occurs s (x ∷ xs) = (x ≡ s) ⊎ Occurs s xs

-- some symbol of the set stands in the message
abbrev pub HasOneOf : ℕ → Message → Type 0
HasOneOf set m = (s : ℕ) × In set s × Occurs s m

-- how many times the symbol s stands in the message
abbrev pub occurrences : ℕ → Message → ℕ
occurrences s [] = 0
occurrences s (x ∷ xs) = cond (x == s) (suc (occurrences s xs)) (occurrences s xs)

-- the symbol a stands at a later place than some b
abbrev pub After : ℕ → ℕ → Message → Type 0
After a b [] = ⊥
After a b (x ∷ xs) = ((x ≡ b) × Occurs a xs) ⊎ After a b xs

-- the message is one of P followed by one of Q
abbrev pub Followed : (Message → Type 0) → (Message → Type 0) → Message → Type 0
Followed P Q m = (a : Message) × (b : Message) × (a ++ b ≡ m) × P a × Q b

-- the third is the first two shuffled, each in its own order
pub data Shuffle : Message → Message → Message → Type 0 where
  done : Shuffle [] [] []
  left : {a b m : Message} (x : ℕ) → Shuffle a b m → Shuffle (x ∷ a) b (x ∷ m)
  right : {a b m : Message} (x : ℕ) → Shuffle a b m → Shuffle a (x ∷ b) (x ∷ m)

-- the message is one of P shuffled with one of Q
abbrev pub Shuffled : (Message → Type 0) → (Message → Type 0) → Message → Type 0
Shuffled P Q m = (a : Message) × (b : Message) × Shuffle a b m × P a × Q b

-- the message is j messages of P joined in a row
abbrev pub Joined : (Message → Type 0) → ℕ → Message → Type 0
Joined P zero m = m ≡ []
Joined P (suc j) m = Followed P (Joined P j) m
