-- How a list of parts reads to the tree of a model, and what the check of a table answers. Assumes nothing.
use Rattle.std.specs.Prelude.{ℕ, ◌+◌, Bool, true, cond, ◌&&◌, List, [], ◌∷◌, length, is_ok, Some, None, Ok, Err, Option, Result, nat_le}
use Rattle.parts.specs.declared.part.Part.{Part}
use Rattle.parts.specs.declared.part.Form.{Form}
use Rattle.parts.specs.declared.part.Form.TheVariants.{Empty, Symbol, Choice, Sequence, Interleave, Count, Nonempty}
use Rattle.models.specs.Trees.{Tree, has_symbol}
use Rattle.models.specs.Trees.Tree.{empty, symbol, choice, sequence, interleave, count, nonempty}
use Rattle.parts.specs.Parts.{form_of, are_fields_fit}
use Rattle.parts.specs.Refusals.{Notice, at_part, at_set}

-- what a form makes of the trees that it takes
pub data Shape : Type 0 where
  leaf : Tree → Shape
  single : (Tree → Tree) → Shape
  pair : (Tree → Tree → Tree) → Shape

abbrev pub shape : Form → Shape
shape Empty = leaf empty
shape (Symbol s) = leaf (symbol s)
shape Choice = pair choice
shape Sequence = pair sequence
shape Interleave = pair interleave
shape (Count repeats) = single (λ t. count t repeats.low repeats.high)
shape Nonempty = single nonempty

-- the trees that wait afterwards, the last first, where enough wait; of two taken, the earlier is the left one
abbrev pub join : Shape → List Tree → Option (List Tree)
join (leaf t) ts = Some (t ∷ ts)
join (single f) [] = None
join (single f) (t ∷ ts) = Some (f t ∷ ts)
join (pair f) [] = None
join (pair f) (r ∷ []) = None
join (pair f) (r ∷ l ∷ ts) = Some (f l r ∷ ts)

-- whether the tree taken has a symbol, where the form is nonempty
abbrev pub symbol_taken : Form → List Tree → Bool
symbol_taken Empty ts = true
symbol_taken (Symbol s) ts = true
symbol_taken Choice ts = true
symbol_taken Sequence ts = true
symbol_taken Interleave ts = true
symbol_taken (Count repeats) ts = true
symbol_taken Nonempty [] = true
symbol_taken Nonempty (t ∷ ts) = has_symbol t

-- questions 7 and 8: do enough parts wait, and does a nonempty part take one with a symbol
abbrev pub joined : Option (List Tree) → Bool → Result (List Tree) ℕ
joined None holds = Err 7
joined (Some ts) holds = cond holds (Ok ts) (Err 8)

-- questions 5 and 6 before them: is the kind known, and do the fields fit
abbrev pub step_by : Option Form → Bool → List Tree → Result (List Tree) ℕ
step_by None fit ts = Err 5
step_by (Some f) fit ts = cond fit (joined (join (shape f) ts) (symbol_taken f ts)) (Err 6)

-- what waits after a part, or the number of the first question that it fails
abbrev pub step : Part → List Tree → Result (List Tree) ℕ
step p ts = step_by (form_of p) (are_fields_fit p) ts

-- question 9, after all parts, n of them: does exactly one wait
abbrev pub only : ℕ → List Tree → Result Tree Notice
only n [] = Err (at_part 9 n)
only n (t ∷ []) = Ok t
only n (t ∷ u ∷ ts) = Err (at_part 9 n)

-- the rest of the parts, or the fault of the one at place n
abbrev pub go_on : ℕ → Result (List Tree) ℕ → (List Tree → Result Tree Notice) → Result Tree Notice
go_on n (Ok ts) rest = rest ts
go_on n (Err question) rest = Err (at_part question n)

-- the model that parts from place n on make with the trees ts waiting, or the first fault
abbrev pub reading : ℕ → List Part → List Tree → Result Tree Notice
reading n [] ts = only n ts
reading n (p ∷ ps) ts = go_on n (step p ts) (reading (n + 1) ps)

-- the answer of the check of a table: question 4 of the whole, then those of its parts
abbrev pub table_answer : List Part → Result Tree Notice
table_answer ps = cond (nat_le 1 (length ps) && nat_le (length ps) 256) (reading 0 ps []) (Err (at_set 4 (length ps)))

-- whether it is a model
abbrev pub is_model : List Part → Bool
is_model ps = is_ok (table_answer ps)

-- the tree of an answer, and d where there is none
abbrev pub tree_or : Tree → Result Tree Notice → Tree
tree_or d (Ok t) = t
tree_or d (Err n) = d

-- the tree of a table that is a model
abbrev pub tree : List Part → Tree
tree ps = tree_or empty (table_answer ps)
