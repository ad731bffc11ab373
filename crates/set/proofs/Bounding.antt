-- The bounds of symbols of a well-formed tree. Assumes nothing.
use Rattle.std.proofs.Common.{ℕ, Bool, true, false, cond, inr, arith}
use Rattle.parts.specs.declared.part.Repeats.{Repeats}
use Rattle.models.specs.Trees.{Tree, Bounds, Formed}
use Rattle.models.specs.Trees.Tree.{empty, symbol, choice, sequence, interleave, count, nonempty}
use Rattle.set.specs.Bounded.{bounds_in}
use Rattle.set.specs.Holding.{holds}

abbrev Bounding : Repeats → Type 0
Bounding b = Bounds b.low b.high

whose : (b : Bool) (l r : Repeats) → Bounding l → Bounding r → Bounding (cond b l r)
whose true l r f g = f
whose false l r f g = g

pub bounds_formed : (s : ℕ) (t : Tree) → Formed t → Bounds (bounds_in s t).low (bounds_in s t).high
bounds_formed s empty f = (omega arith, omega arith, inr (omega arith, omega arith))
bounds_formed s (symbol x) f = (omega arith, omega arith, inr (omega arith, omega arith))
bounds_formed s (choice l r) f = whose (holds s l) (bounds_in s l) (bounds_in s r) (bounds_formed s l f.0) (bounds_formed s r f.1)
bounds_formed s (sequence l r) f = whose (holds s l) (bounds_in s l) (bounds_in s r) (bounds_formed s l f.0) (bounds_formed s r f.1)
bounds_formed s (interleave l r) f = whose (holds s l) (bounds_in s l) (bounds_in s r) (bounds_formed s l f.0) (bounds_formed s r f.1)
bounds_formed s (count t low high) f = f.1
bounds_formed s (nonempty t) f = bounds_formed s t f.0
