-- What the comparison of a sent and an expected table ends with, whatever the two are. Assumes nothing.
use Rattle.std.specs.Prelude.{◌≡◌, ℕ, cond, List, [], Some, None, Ok, Err, Option, Result, ◌==◌}
use Rattle.parts.specs.Refusals.{Notice, at_set}
use Rattle.parts.specs.declared.part.Part.{Part}
use Rattle.models.specs.Conflicts.{first_conflict_of}
use Rattle.models.specs.Sheets.{table_answer}
use Rattle.models.specs.Trees.{Tree}
use Rattle.set.specs.Histories.{Told}
use Rattle.set.specs.Histories.Told.{refused}
use Rattle.set.specs.Law.{Ends, ComparedTo}

-- a sheet of n parts is refused that has not 8,192, since then 1 is not the number of a window
abbrev pub sheet_refused : ℕ → Option Notice
sheet_refused n = cond (n == 8192) None (Some (at_set 2 1))

-- two models: the expected one is refused at its first conflict; where it has none, the two are compared, nothing hung behind
abbrev pub ModelsEnd : Tree → Tree → Option ℕ → Told → Type 0
ModelsEnd sent expected (Some place) told = told ≡ refused (at_set 11 place)
ModelsEnd sent expected None told = ComparedTo sent expected [] told

-- what the checks of two tables answered: a table that is no model is refused, the sent one first
abbrev pub TablesEnd : Result Tree Notice → Result Tree Notice → Told → Type 0
TablesEnd (Err n) expected told = told ≡ refused n
TablesEnd (Ok t) (Err n) told = told ≡ refused n
TablesEnd (Ok t) (Ok u) told = ModelsEnd t u (first_conflict_of u) told

-- a sent and an expected table, over a sheet of n parts
abbrev pub PairEnds : ℕ → List Part → List Part → Told → Type 0
PairEnds n sent expected = Ends (sheet_refused n) (TablesEnd (table_answer sent) (table_answer expected))
