-- The sheet of a tree: its parts in order, each after what it takes. Assumes nothing.
use Rattle.std.specs.Prelude.{◌≡◌, ℕ, ◌≤◌, List, [], ◌∷◌, ◌++◌, map, length, Ok}
use Rattle.parts.specs.declared.part.Part.{Part}
use Rattle.models.specs.Sheets.{table_answer}
use Rattle.models.specs.Trees.{Tree, Formed}
use Rattle.models.specs.Trees.Tree.{empty, symbol, choice, sequence, interleave, count, nonempty}

-- the subtrees that the parts of a sheet stand for, in the sheet's order
abbrev pub subtrees : Tree → List Tree
subtrees empty = empty ∷ []
subtrees (symbol s) = symbol s ∷ []
subtrees (choice l r) = subtrees l ++ (subtrees r ++ (choice l r ∷ []))
subtrees (sequence l r) = subtrees l ++ (subtrees r ++ (sequence l r ∷ []))
subtrees (interleave l r) = subtrees l ++ (subtrees r ++ (interleave l r ∷ []))
subtrees (count t low high) = subtrees t ++ (count t low high ∷ [])
subtrees (nonempty t) = subtrees t ++ (nonempty t ∷ [])

abbrev pub part : ℕ → ℕ → ℕ → ℕ → Part
part k s l h = record { kind = k; symbol = s; low = l; high = h }

-- the part that stands for a tree
abbrev pub part_of : Tree → Part
part_of empty = part 0 0 0 0
part_of (symbol s) = part 1 s 0 0
part_of (choice l r) = part 2 0 0 0
part_of (sequence l r) = part 3 0 0 0
part_of (interleave l r) = part 4 0 0 0
part_of (count t low high) = part 5 0 low high
part_of (nonempty t) = part 6 0 0 0

abbrev pub sheet : Tree → List Part
sheet t = map part_of (subtrees t)

-- the table is the sheet of a well-formed tree, of at most 256 parts
abbrev pub SheetOf : List Part → Tree → Type 0
SheetOf ps t = (ps ≡ sheet t) × Formed t × (length ps ≤ 256)

-- the sheets of trees one after the other; the last tree stands first in the list
abbrev pub laid : List Tree → List Part
laid [] = []
laid (t ∷ ts) = laid ts ++ sheet t

-- a table is taken, with a tree, exactly when it is the sheet of that tree
abbrev pub TakenExactly : Type 0
TakenExactly = (ps : List Part) (t : Tree) → (table_answer ps ≡ Ok t → SheetOf ps t) × (SheetOf ps t → table_answer ps ≡ Ok t)
