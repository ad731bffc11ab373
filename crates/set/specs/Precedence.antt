-- Which symbols of a conflict-free model may not come after which. Assumes nothing.
use Rattle.std.specs.Prelude.{ℕ, Bool, true, false, cond, ◌&&◌}
use Rattle.models.specs.Trees.{Tree}
use Rattle.models.specs.Trees.Tree.{empty, symbol, choice, sequence, interleave, count, nonempty}
use Rattle.set.specs.Holding.{holds}

abbrev pub holds_both : ℕ → ℕ → Tree → Bool
holds_both a b t = holds a t && holds b t

-- the smallest part of a tree that holds both symbols, where the tree does; of a
-- symbol and itself that is its symbol part
abbrev pub smallest : ℕ → ℕ → Tree → Tree
smallest a b empty = empty
smallest a b (symbol s) = symbol s
smallest a b (choice l r) = cond (holds_both a b l) (smallest a b l) (cond (holds_both a b r) (smallest a b r) (choice l r))
smallest a b (sequence l r) = cond (holds_both a b l) (smallest a b l) (cond (holds_both a b r) (smallest a b r) (sequence l r))
smallest a b (interleave l r) = cond (holds_both a b l) (smallest a b l) (cond (holds_both a b r) (smallest a b r) (interleave l r))
smallest a b (count t low high) = smallest a b t
smallest a b (nonempty t) = smallest a b t

-- whether the part itself bars a symbol a of one side from coming after one of the other: it
-- is a choice, or a sequence with a on the left
abbrev pub bars : Tree → ℕ → Bool
bars empty a = false
bars (symbol s) a = false
bars (choice l r) a = true
bars (sequence l r) a = holds a l
bars (interleave l r) a = false
bars (count t low high) a = false
bars (nonempty t) a = false

-- no a may come after a b
abbrev pub ordered : ℕ → ℕ → Tree → Bool
ordered a b t = bars (smallest a b t) a
