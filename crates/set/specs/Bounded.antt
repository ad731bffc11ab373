-- How often a symbol of a conflict-free model may occur. Assumes nothing.
use Rattle.std.specs.Prelude.{ℕ, cond}
use Rattle.parts.specs.declared.part.Repeats.{Repeats}
use Rattle.models.specs.Trees.{Tree}
use Rattle.models.specs.Trees.Tree.{empty, symbol, choice, sequence, interleave, count, nonempty}
use Rattle.set.specs.Holding.{holds}

-- the bounds of the count that takes the symbol s, or 1 and 1 where none does; of a symbol of a
-- conflict-free model, where it stands in one part and a count takes a symbol part
abbrev pub bounds_in : ℕ → Tree → Repeats
bounds_in s empty = record { low = 1; high = 1 }
bounds_in s (symbol x) = record { low = 1; high = 1 }
bounds_in s (choice l r) = cond (holds s l) (bounds_in s l) (bounds_in s r)
bounds_in s (sequence l r) = cond (holds s l) (bounds_in s l) (bounds_in s r)
bounds_in s (interleave l r) = cond (holds s l) (bounds_in s l) (bounds_in s r)
bounds_in s (count t low high) = record { low = low; high = high }
bounds_in s (nonempty t) = bounds_in s t
