-- The calls of a script's entries that a set is asked, and what goes to each entry. Assumes nothing.
use Rattle.std.specs.Prelude.{◌≡◌, ℕ, List, [], ◌∷◌, ◌++◌, Some, None, Option}
use Rattle.std.specs.Io.KnownBytes.{Appends}
use Rattle.rules.specs.declared.none.NoRules.{NoRules}
use Rattle.set.specs.Histories.{Asked, Told, History}
use Rattle.set.specs.Law.{Due}
use Rattle.seasons.specs.Calls.{asked}
use Rattle.seasons.specs.declared.call.Call.{Call as SetCall}
use Rattle.script.specs.declared.call.Call.{Call}
use Rattle.runner.specs.Scripts.{CallSaid, asked_of}
use Rattle.runner.specs.declared.entry.Entry.{Entry}

-- the call of a set that asks what a call of the script does
abbrev pub SetCallIs : Call → Option (SetCall NoRules) → Type 0
SetCallIs call None = asked_of call ≡ None
SetCallIs call (Some c) = asked_of call ≡ Some (asked c)

-- something in front of the rest, if it is there
abbrev pub onto : Option Asked → List Asked → List Asked
onto None rest = rest
onto (Some a) rest = a ∷ rest

-- what the entries ask of the set, in turn
abbrev pub asked_in : List Entry → List Asked
asked_in [] = []
asked_in (e ∷ es) = onto (asked_of e.call) (asked_in es)

-- each of what is asked after the history h is told what is due
abbrev pub AllDue : History → List Asked → List Told → Type 0
AllDue h [] [] = Unit {0}
AllDue h [] (t ∷ ts) = ⊥
AllDue h (a ∷ rest) [] = ⊥
AllDue h (a ∷ rest) (t ∷ ts) = Due [] 8192 h a t × AllDue (record { asked = a; told = t } ∷ h) rest ts

-- what goes to entries, one after another
abbrev pub EntriesSaid : History → List Entry → List ℕ → History → Type 0
EntriesSaid h [] said h′ = (said ≡ []) × (h′ ≡ h)
EntriesSaid h (e ∷ es) said h′ =
    (first : List ℕ) × (others : List ℕ) × (mid : History) × (said ≡ first ++ others) × CallSaid h e.line.now e.call first mid × EntriesSaid mid es others h′

-- old grows to new by what goes to the entries
abbrev pub EntriesWritten : List Entry → Option (List ℕ) → Option (List ℕ) → Type 0
EntriesWritten es old new = (said : List ℕ) × (h : History) × EntriesSaid [] es said h × Appends old new said
