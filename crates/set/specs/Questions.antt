-- The questions of a message set's calls. The answer is none where it is yes, and where it is no what the refusal tells. Assumes nothing.
use Rattle.std.specs.Prelude.{ℕ, ◌+◌, cond, List, [], ◌∷◌, length, Some, None, Ok, Err, Option, Result, ◌==◌, nat_le}
use Rattle.parts.specs.Refusals.{Notice, at_set}
use Rattle.parts.specs.declared.part.Part.{Part}
use Rattle.models.specs.Conflicts.{first_conflict_of}
use Rattle.models.specs.Messages.{Message}
use Rattle.models.specs.Sheets.{table_answer, tree}
use Rattle.models.specs.Trees.{Tree}
use Rattle.store.specs.Windows.{numbered}

-- of questions in turn, the first that gets a no
abbrev pub first_no : List (Option Notice) → Option Notice
first_no [] = None
first_no (None ∷ questions) = first_no questions
first_no (Some n ∷ questions) = Some n

-- what a refusal tells that has this number in the set's layer, if its place is known
abbrev pub at_place : ℕ → Option ℕ → Option Notice
at_place number None = None
at_place number (Some place) = Some (at_set number place)

-- 1: has the sheet exactly 8,192 parts
abbrev pub sheet_question : ℕ → Option Notice
sheet_question n = cond (n == 8192) None (Some (at_set 1 n))

-- 2: is m a number, on a sheet of n parts
abbrev pub number_question : ℕ → ℕ → Option Notice
number_question n m = cond (numbered n m) None (Some (at_set 2 m))

-- 3: is the number m free, where this stands
abbrev pub free_question : Option (List Part) → ℕ → Option Notice
free_question None m = None
free_question (Some ps) m = Some (at_set 3 m)

-- what the check of a table refuses
abbrev pub fault_told : Result Tree Notice → Option Notice
fault_told (Ok t) = None
fault_told (Err n) = Some n

-- 4 to 9: are these parts a model
abbrev pub table_question : List Part → Option Notice
table_question ps = fault_told (table_answer ps)

-- 10: is a model declared at the number m, where this stands
abbrev pub declared_question : Option (List Part) → ℕ → Option Notice
declared_question None m = Some (at_set 10 m)
declared_question (Some ps) m = None

-- 11: is the model that stands conflict-free
abbrev pub conflict_question : Option (List Part) → Option Notice
conflict_question None = None
conflict_question (Some ps) = at_place 11 (first_conflict_of (tree ps))

-- 12: has the message at most 4,096 symbols
abbrev pub length_question : Message → Option Notice
length_question message = cond (nat_le (length message) 4096) None (Some (at_set 12 (length message)))

-- the place of the first symbol above 63, those before it being k
abbrev pub first_above : ℕ → Message → Option ℕ
first_above k [] = None
first_above k (s ∷ message) = cond (nat_le s 63) (first_above (k + 1) message) (Some k)

-- 13: is each symbol at most 63
abbrev pub symbols_question : Message → Option Notice
symbols_question message = at_place 13 (first_above 0 message)
