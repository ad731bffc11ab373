-- When a table is refused, by the trees whose sheets stand in it. Assumes nothing.
use Rattle.std.specs.Prelude.{◌≡◌, ℕ, ◌<◌, ◌≤◌, ◌⊎◌, List, ◌∷◌, ◌++◌, length, Err, ◌≢◌}
use Rattle.parts.specs.declared.part.Part.{Part}
use Rattle.parts.specs.Refusals.{Notice, at_part, at_set}
use Rattle.models.specs.Sheets.{step, table_answer}
use Rattle.models.specs.Told.{AllFormed}
use Rattle.models.specs.Trees.{Tree}
use Rattle.models.specs.Written.{laid}

-- the parts are the sheets of well-formed trees in a row
abbrev pub RowOf : List Part → List Tree → Type 0
RowOf ps ts = (ps ≡ laid ts) × AllFormed ts

-- what stands before some part is a row of sheets, whose trees wait, and that part fails a question
abbrev pub PartFails : List Part → Notice → Type 0
PartFails ps n =
    (before : List Part) × (p : Part) × (after : List Part) × (ts : List Tree) × (question : ℕ)
    × (ps ≡ before ++ (p ∷ after)) × RowOf before ts × (step p ts ≡ Err question) × (n ≡ at_part question (length before))

-- all of it is a row of sheets, and not of exactly one
abbrev pub EndFails : List Part → Notice → Type 0
EndFails ps n = (ts : List Tree) × RowOf ps ts × (length ts ≢ 1) × (n ≡ at_part 9 (length ps))

-- it has not 1 to 256 parts
abbrev pub LengthFails : List Part → Notice → Type 0
LengthFails ps n = ((length ps < 1) ⊎ (256 < length ps)) × (n ≡ at_set 4 (length ps))

-- by its length, or else by a part after sheets in a row, or at the end
abbrev pub RefusedFor : List Part → Notice → Type 0
RefusedFor ps n = LengthFails ps n ⊎ ((1 ≤ length ps) × (length ps ≤ 256) × (PartFails ps n ⊎ EndFails ps n))

-- a table is refused exactly so
abbrev pub RefusedExactly : Type 0
RefusedExactly = (ps : List Part) (n : Notice) → (table_answer ps ≡ Err n → RefusedFor ps n) × (RefusedFor ps n → table_answer ps ≡ Err n)
