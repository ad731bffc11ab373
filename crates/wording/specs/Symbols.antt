-- Symbols and sets of symbols, told by the names. Assumes nothing.
use Rattle.std.specs.Prelude.{ℕ, cond, List, ◌++◌, Some, None, Option, codes, decimal, slice_get}
use Rattle.std.specs.List.{join_by}
use Rattle.std.specs.Str.{is_utf8}
use Rattle.parts.specs.Sets.{members}

-- a name, or the number of its symbol where there is no name that is text
abbrev pub name_or_number : Option (List ℕ) → ℕ → List ℕ
name_or_number (Some name) s = cond (is_utf8 name) name (decimal s)
name_or_number None s = decimal s

-- a symbol by its name, which stands at its place among the names
abbrev pub symbol_said : List (List ℕ) → ℕ → List ℕ
symbol_said names s = name_or_number (slice_get names s) s

-- the symbols of a set, ascending, with the same text between each two
abbrev pub row_said : List ℕ → List (List ℕ) → ℕ → List ℕ
row_said between names set = join_by (symbol_said names) between (members set)

-- a set: its symbols in braces, with commas between them
abbrev pub listed_by : List (List ℕ) → ℕ → List ℕ
listed_by names set = codes "{" ++ (row_said (codes ",") names set ++ codes "}")
