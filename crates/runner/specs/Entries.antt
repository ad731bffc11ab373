-- What calls the lines of a script make. Assumes nothing.
use Rattle.std.specs.Prelude.{◌≡◌, ℕ, ◌+◌, ◌⊎◌, ◌≢◌, List, [], ◌∷◌, ◌++◌, length, Some, None, Ok, Err, string_bytes, Result}
use Rattle.script.specs.Complaints.{complaint}
use Rattle.script.specs.Lines.{LineRead}
use Rattle.script.specs.declared.error.LineError.{LineError}
use Rattle.script.specs.declared.error.LineError.TheVariants.{Memory}
use Rattle.runner.specs.declared.entry.Entry.{Entry}
use Rattle.runner.specs.declared.failure.Failure.{Failure}
use Rattle.runner.specs.declared.failure.Failure.TheVariants.{BadFile, BadInput, BadLine, Io}

-- the lines make these entries: one each where it makes a call
abbrev pub EntriesAre : List (List ℕ) → List Entry → Type 0
EntriesAre [] es = es ≡ []
EntriesAre (line ∷ lines) es =
    (LineRead line (Ok None) × EntriesAre lines es)
    ⊎ ((e : Entry) × (rest : List Entry) × (es ≡ e ∷ rest) × (e.line.now ≡ line) × LineRead line (Ok (Some e.call)) × EntriesAre lines rest)

-- old grows to new by what the lines make
abbrev pub Entered : List (List ℕ) → List Entry → List Entry → Type 0
Entered lines old new = (es : List Entry) × EntriesAre lines es × (new ≡ old ++ es)

-- the line is no call, and the reason says what is wrong with it, which is not that memory ran out
abbrev pub IsBad : List ℕ → List ℕ → Type 0
IsBad line reason = (error : LineError) × (error ≢ Memory) × LineRead line (Err error) × (reason ≡ complaint error)

-- what a line makes is added, or it is bad and nothing is
abbrev pub LineEntered : ℕ → List ℕ → List Entry → List Entry → Result (Unit {0}) Failure → Type 0
LineEntered n line old new (Ok u) = Entered (line ∷ []) old new
LineEntered n line old new (Err (BadFile path error)) = ⊥
LineEntered n line old new (Err (BadInput error)) = ⊥
LineEntered n line old new (Err (BadLine number reason)) = (number ≡ n) × IsBad line (string_bytes reason) × (new ≡ old)
LineEntered n line old new (Err (Io error)) = Unit {0}

-- the lines before the first bad one, which the failure numbers from 1
abbrev pub BadAt : List (List ℕ) → ℕ → List ℕ → List (List ℕ) → Type 0
BadAt lines number reason before =
    (line : List ℕ) × (after : List (List ℕ)) × (lines ≡ before ++ (line ∷ after)) × (number ≡ length before + 1) × IsBad line reason

-- what all the lines make is added, or what those before the first bad one do
abbrev pub ScriptEntered : List (List ℕ) → List Entry → List Entry → Result (Unit {0}) Failure → Type 0
ScriptEntered lines old new (Ok u) = Entered lines old new
ScriptEntered lines old new (Err (BadFile path error)) = ⊥
ScriptEntered lines old new (Err (BadInput error)) = ⊥
ScriptEntered lines old new (Err (BadLine number reason)) = (before : List (List ℕ)) × BadAt lines number (string_bytes reason) before × Entered before old new
ScriptEntered lines old new (Err (Io error)) = Unit {0}
