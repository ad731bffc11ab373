-- The tree of a model, and which messages fit it. Assumes nothing.
use Rattle.std.specs.Prelude.{◌≡◌, ℕ, ◌≤◌, Bool, true, false, ◌||◌, ◌⊎◌, [], ◌∷◌, ◌≢◌}
use Rattle.models.specs.Messages.{Message, Occurs, Followed, Shuffled, Joined}

pub data Tree : Type 0 where
  empty : Tree
  symbol : ℕ → Tree
  choice : Tree → Tree → Tree
  sequence : Tree → Tree → Tree
  interleave : Tree → Tree → Tree
  count : Tree → ℕ → ℕ → Tree
  nonempty : Tree → Tree

-- j is from low to high, and high 0 sets no upper end
abbrev pub Between : ℕ → ℕ → ℕ → Type 0
Between low high j = (low ≤ j) × ((high ≡ 0) ⊎ (j ≤ high))

-- which messages fit
abbrev pub Fits : Tree → Message → Type 0
Fits empty m = m ≡ []
Fits (symbol s) m = m ≡ s ∷ []
Fits (choice l r) m = Fits l m ⊎ Fits r m
Fits (sequence l r) m = Followed (Fits l) (Fits r) m
Fits (interleave l r) m = Shuffled (Fits l) (Fits r) m
Fits (count t low high) m = (j : ℕ) × Between low high j × Joined (Fits t) j m
Fits (nonempty t) m = Fits t m × (m ≢ [])

-- some message that fits has the symbol s
abbrev pub Carries : Tree → ℕ → Type 0
Carries t s = (m : Message) × Fits t m × Occurs s m

-- the symbol s stands in a part of the tree
abbrev pub Stands : Tree → ℕ → Type 0
Stands empty s = ⊥
Stands (symbol x) s = x ≡ s
Stands (choice l r) s = Stands l s ⊎ Stands r s
Stands (sequence l r) s = Stands l s ⊎ Stands r s
Stands (interleave l r) s = Stands l s ⊎ Stands r s
Stands (count t low high) s = Stands t s
Stands (nonempty t) s = Stands t s

-- whether it is or holds a symbol part
abbrev pub has_symbol : Tree → Bool
has_symbol empty = false
has_symbol (symbol s) = true
has_symbol (choice l r) = has_symbol l || has_symbol r
has_symbol (sequence l r) = has_symbol l || has_symbol r
has_symbol (interleave l r) = has_symbol l || has_symbol r
has_symbol (count t low high) = has_symbol t
has_symbol (nonempty t) = has_symbol t

-- some message fits, and some nonempty one where the tree has a symbol
abbrev pub Inhabited : Tree → Type 0
Inhabited t = ((m : Message) × Fits t m) × (has_symbol t ≡ true → (m : Message) × Fits t m × (m ≢ []))

-- the bounds that a count may have
abbrev pub Bounds : ℕ → ℕ → Type 0
Bounds low high = (1 ≤ low) × (low ≤ 10000) × ((high ≡ 0) ⊎ ((low ≤ high) × (high ≤ 10000)))

-- what is known of every model: symbols below 64, counts within their bounds,
-- and a symbol in each part that drops the empty message
abbrev pub Formed : Tree → Type 0
Formed empty = Unit {0}
Formed (symbol s) = s ≤ 63
Formed (choice l r) = Formed l × Formed r
Formed (sequence l r) = Formed l × Formed r
Formed (interleave l r) = Formed l × Formed r
Formed (count t low high) = Formed t × Bounds low high
Formed (nonempty t) = Formed t × (has_symbol t ≡ true)
