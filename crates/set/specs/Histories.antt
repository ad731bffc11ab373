-- What one message set was asked from blank on, call by call, and what it answered; which model stands then, and in which state the set is. Assumes nothing.
use Rattle.std.specs.Prelude.{◌≡◌, ℕ, Bool, true, false, cond, ◌&&◌, List, [], ◌∷◌, ◌++◌, Some, None, Ok, Err, Option, Result, ◌==◌}
use Rattle.parts.specs.Refusals.{Notice, notice}
use Rattle.parts.specs.declared.part.Part.{Part}
use Rattle.parts.specs.declared.refusal.Refusal.{Refusal}
use Rattle.models.specs.Messages.{Message}
use Rattle.rules.specs.declared.verdict.Verdict.{Verdict}
use Rattle.set.specs.declared.state.State.{State}
use Rattle.set.specs.declared.state.State.TheVariants.{DrawnUp, Issued}

-- what a set is asked; what hangs behind a compare is told beside it
pub data Asked : Type 0 where
  declare : ℕ → List Part → Asked
  withdraw : ℕ → Asked
  issue : Asked
  recall : Asked
  compare : ℕ → ℕ → Asked
  judge : ℕ → Message → Asked

-- what it answers
pub data Told : Type 0 where
  granted : Told
  included : Told
  fits : Told
  names : Verdict → Told
  refused : Notice → Told
  not_taken : State → Told

-- what the results of the calls tell
abbrev pub granted_told : Result (Unit {0}) Refusal → Told
granted_told (Ok u) = granted
granted_told (Err r) = refused (notice r)

-- the verdict of a rule that is named, or else what is told where no rule is broken
abbrev pub named : Told → Option Verdict → Told
named none None = none
named none (Some v) = names v

abbrev pub verdict_told : Told → Result (Option Verdict) Refusal → Told
verdict_told none (Ok v) = named none v
verdict_told none (Err r) = refused (notice r)

-- a call that was made, with its answer
pub record Event : Type 0 where
  pub asked : Asked
  pub told : Told

-- the last call first
abbrev pub History : Type 0
History = List Event

abbrev pub is_granted : Told → Bool
is_granted granted = true
is_granted included = false
is_granted fits = false
is_granted (names v) = false
is_granted (refused n) = false
is_granted (not_taken s) = false

-- the model at the number m after a call, with `was` before it
abbrev pub changed : Asked → Told → ℕ → Option (List Part) → Option (List Part)
changed (declare n ps) told m was = cond (is_granted told && m == n) (Some ps) was
changed (withdraw n) told m was = cond (is_granted told && m == n) None was
changed issue told m was = was
changed recall told m was = was
changed (compare s e) told m was = was
changed (judge n message) told m was = was

-- the model that stands at the number m: the parts of the last declare granted there, unless a withdraw of that number was granted since
abbrev pub stands : History → ℕ → Option (List Part)
stands [] m = None
stands (e ∷ h) m = changed e.asked e.told m (stands h m)

-- the state after a call
abbrev pub moved : Asked → Told → State → State
moved (declare n ps) told s = s
moved (withdraw n) told s = s
moved issue told s = cond (is_granted told) Issued s
moved recall told s = cond (is_granted told) DrawnUp s
moved (compare n e) told s = s
moved (judge n message) told s = s

abbrev pub state : History → State
state [] = DrawnUp
state (e ∷ h) = moved e.asked e.told (state h)

-- a declare with these parts was granted at the number m
abbrev pub Declared : ℕ → List Part → Event → Type 0
Declared m ps e = (e.asked ≡ declare m ps) × (e.told ≡ granted)

-- the call is a declare at the number m, or a withdraw of it
abbrev pub alters : Asked → ℕ → Bool
alters (declare n ps) m = m == n
alters (withdraw n) m = m == n
alters issue m = false
alters recall m = false
alters (compare s e) m = false
alters (judge n message) m = false

-- no declare at the number m, and no withdraw of it, was granted
abbrev pub NoneAltered : ℕ → History → Type 0
NoneAltered m [] = Unit {0}
NoneAltered m (e ∷ h) = ((is_granted e.told && alters e.asked m) ≡ false) × NoneAltered m h

-- so the model that stands is the one last declared
abbrev pub LastDeclared : History → ℕ → List Part → Type 0
LastDeclared h m ps = (since : History) × (e : Event) × (before : History) × (h ≡ since ++ (e ∷ before)) × Declared m ps e × NoneAltered m since

abbrev pub StandsExactly : Type 0
StandsExactly = (h : History) (m : ℕ) (ps : List Part) → (stands h m ≡ Some ps → LastDeclared h m ps) × (LastDeclared h m ps → stands h m ≡ Some ps)
