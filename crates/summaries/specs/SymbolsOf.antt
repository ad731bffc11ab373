-- The symbols of a model, as a set. Assumes nothing.
use Rattle.std.specs.Prelude.{ℕ}
use Rattle.models.specs.Trees.{Tree, Stands, Carries}
use Rattle.parts.specs.Sets.{In}

-- the set has exactly the symbols that messages of the tree have
abbrev pub SymbolsAre : Tree → ℕ → Type 0
SymbolsAre t set = (s : ℕ) → (In set s → Carries t s) × (Carries t s → In set s)

-- the set has exactly the symbols that stand in parts of the tree
abbrev pub StandingAre : Tree → ℕ → Type 0
StandingAre t set = (s : ℕ) → (In set s → Stands t s) × (Stands t s → In set s)
