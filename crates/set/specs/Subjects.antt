-- What is told of rules by what they are asked about. Assumes nothing.
use Rattle.std.specs.Prelude.{ℕ, ◌≤◌, List, [], ◌∷◌}
use Rattle.parts.specs.Sets.{In, members}
use Rattle.parts.specs.declared.part.Repeats.{Repeats}
use Rattle.rules.specs.Rules.{Rule}
use Rattle.set.specs.Five.{for_each, cardinality, order}

-- the rules that a does not come after b, for each b of the set, ascending
abbrev pub orders_after : ℕ → ℕ → List Rule
orders_after a set = for_each (members set) (λ b. order a b ∷ [])

-- P holds of no rule about how a symbol occurs, or that it does not come after another, if the set does not have the symbol
abbrev pub OthersKept : (Rule → Type 0) → ℕ → Type 0
OthersKept P set = (s : ℕ) → s ≤ 63 → (In set s → ⊥) → ((bounds : Repeats) → P (cardinality s bounds) → ⊥) × ((b : ℕ) → P (order s b) → ⊥)
