-- When the empty message fits. Assumes nothing.
use Rattle.std.specs.Prelude.{◌≡◌, ℕ, ◌≤◌, ◌⊎◌, []}
use Rattle.models.specs.Trees.{Tree, Fits}
use Rattle.models.specs.Trees.Tree.{count}

-- the empty message fits a count exactly when it fits the part counted, whatever low from 1 on and high from low on
abbrev pub EmptyCount : Type 0
EmptyCount =
    (t : Tree) (low high : ℕ) → 1 ≤ low → (high ≡ 0) ⊎ (low ≤ high) → (Fits (count t low high) [] → Fits t []) × (Fits t [] → Fits (count t low high) [])
