-- What is told of a symbol and those that it may not come after. Assumes nothing.
use Rattle.std.specs.Prelude.{◌≡◌, ℕ, true}
use Rattle.parts.specs.Sets.{In}
use Rattle.models.specs.Trees.{Tree, Stands}
use Rattle.summaries.specs.SymbolsOf.{SymbolsAre}
use Rattle.set.specs.Precedence.{ordered}

-- the set has the symbols of the tree that a, if it stands there, may not come after
abbrev pub OthersAre : ℕ → Tree → ℕ → Type 0
OthersAre a t set =
    (b : ℕ) → (In set b → Stands t a × Stands t b × (ordered a b t ≡ true)) × (Stands t a × Stands t b × (ordered a b t ≡ true) → In set b)

-- the set has what the other has, if a is in the one
abbrev pub BesideIs : ℕ → ℕ → ℕ → ℕ → Type 0
BesideIs a one other set = (b : ℕ) → (In set b → In one a × In other b) × (In one a × In other b → In set b)

-- the tree's symbols, and those that a may not come after
abbrev pub MarkedIs : ℕ → Tree → ℕ → ℕ → Type 0
MarkedIs a t symbols others = SymbolsAre t symbols × OthersAre a t others
