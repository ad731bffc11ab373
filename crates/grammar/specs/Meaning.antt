-- Which model what is written stands for. Assumes nothing.
use Rattle.std.specs.Prelude.{ℕ, List, [], ◌∷◌, ◌++◌}
use Rattle.grammar.specs.Words.{Words, Join, Mark}
use Rattle.grammar.specs.Words.Words.{name, nothing, group, marked, joined}
use Rattle.grammar.specs.Words.Join.{alt, next, both}
use Rattle.grammar.specs.Words.Mark.{optional, repeated, any}
use Rattle.models.specs.Trees.{Tree}
use Rattle.models.specs.Trees.Tree.{empty, symbol, choice, sequence, interleave, count}
use Rattle.names.specs.Numbering.{symbol_in}

-- X? is X or empty; X+ counts X from 1 without end; X* is X+ or empty
abbrev pub suffixed : Mark → Tree → Tree
suffixed optional t = choice t empty
suffixed repeated t = count t 1 0
suffixed any t = choice (count t 1 0) empty

abbrev pub joining : Join → Tree → Tree → Tree
joining alt l r = choice l r
joining next l r = sequence l r
joining both l r = interleave l r

-- the model, where the known names are ks
abbrev pub tree_of : List (List ℕ) → Words → Tree
tree_of ks (name n) = symbol (symbol_in ks n)
tree_of ks nothing = empty
tree_of ks (group w) = tree_of ks w
tree_of ks (marked w m) = suffixed m (tree_of ks w)
tree_of ks (joined l j r) = joining j (tree_of ks l) (tree_of ks r)

-- the names in it, in order
abbrev pub names_in : Words → List (List ℕ)
names_in (name n) = n ∷ []
names_in nothing = []
names_in (group w) = names_in w
names_in (marked w m) = names_in w
names_in (joined l j r) = names_in l ++ names_in r
