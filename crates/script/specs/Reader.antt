-- What a reader reads next. Assumes nothing.
use Rattle.std.specs.Prelude.{ℕ, List, Some, None, Ok, Err, IfSome, Option, Result}
use Rattle.std.specs.Borrow.{Bor}
use Rattle.script.specs.Words.{First, Next}
use Rattle.script.specs.declared.error.LineError.{LineError}

-- the first word of bs gives x, and rest follows it; or it gives nothing, or bs has no word, and e tells of what comes in its place
abbrev pub ReadNext : {X : Type 0} → (Bor (List ℕ) → Option X → Type 0) → (Option (Bor (List ℕ)) → LineError → Type 0) → List ℕ → Result X LineError → List ℕ → Type 0
ReadNext Gives Tells bs (Ok x) rest = (w : Bor (List ℕ)) × First bs w.now rest × Gives w (Some x)
ReadNext Gives Tells bs (Err e) rest = (w : Option (Bor (List ℕ))) × Tells w e × Next bs w rest × IfSome w (λ v. Gives v None)
