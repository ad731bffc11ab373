-- Which symbols a tree holds, and whether the empty message fits it, as values. Assumes nothing.
use Rattle.std.specs.Prelude.{ℕ, Bool, true, false, ◌&&◌, ◌||◌, ◌==◌, bit_or}
use Rattle.parts.specs.Sets.{only}
use Rattle.models.specs.Trees.{Tree}
use Rattle.models.specs.Trees.Tree.{empty, symbol, choice, sequence, interleave, count, nonempty}

-- the symbol s stands in a part of the tree
abbrev pub holds : ℕ → Tree → Bool
holds s empty = false
holds s (symbol x) = x == s
holds s (choice l r) = holds s l || holds s r
holds s (sequence l r) = holds s l || holds s r
holds s (interleave l r) = holds s l || holds s r
holds s (count t low high) = holds s t
holds s (nonempty t) = holds s t

-- the set of the symbols that stand in parts of the tree
abbrev pub symbols_in : Tree → ℕ
symbols_in empty = 0
symbols_in (symbol s) = only s
symbols_in (choice l r) = bit_or (symbols_in l) (symbols_in r)
symbols_in (sequence l r) = bit_or (symbols_in l) (symbols_in r)
symbols_in (interleave l r) = bit_or (symbols_in l) (symbols_in r)
symbols_in (count t low high) = symbols_in t
symbols_in (nonempty t) = symbols_in t

-- whether the empty message fits
abbrev pub takes_empty : Tree → Bool
takes_empty empty = true
takes_empty (symbol s) = false
takes_empty (choice l r) = takes_empty l || takes_empty r
takes_empty (sequence l r) = takes_empty l && takes_empty r
takes_empty (interleave l r) = takes_empty l && takes_empty r
takes_empty (count t low high) = takes_empty t
takes_empty (nonempty t) = false
