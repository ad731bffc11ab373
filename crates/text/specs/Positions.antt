-- Lines and columns of a text. Assumes nothing.
use Rattle.std.specs.Prelude.{ℕ, ◌+◌, Bool, false, cond, not, ◌&&◌, ◌||◌, List, [], ◌∷◌, ◌==◌, Some, None, Option}
use Rattle.text.specs.declared.position.Position.{Position}

abbrev pub is_line_feed : Option ℕ → Bool
is_line_feed None = false
is_line_feed (Some b) = b == 10

-- a line ends with a line feed, 10, or with a carriage return, 13, that has none behind it
abbrev pub ends_line : ℕ → Option ℕ → Bool
ends_line b next = b == 10 || (b == 13 && not (is_line_feed next))

abbrev pub next_of : List ℕ → Option ℕ
next_of [] = None
next_of (b ∷ bs) = Some b

-- behind a byte: a new line, or the next column
abbrev pub step : Position → ℕ → Option ℕ → Position
step p b next = cond (ends_line b next) (record { line = p.line + 1; column = 1 }) (record { line = p.line; column = p.column + 1 })

abbrev pub walk : Position → List ℕ → Position
walk p [] = p
walk p (b ∷ bs) = walk (step p b (next_of bs)) bs

-- the position behind these bytes
abbrev pub position_of : List ℕ → Position
position_of bs = walk (record { line = 1; column = 1 }) bs
