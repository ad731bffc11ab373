-- Which text is read between the calls of a run: no public promise rests on it. Assumes nothing.
use Rattle.std.specs.Prelude.{◌≡◌, ◌+◌, min, List, [], ◌∷◌}
use Rattle.names.specs.declared.vocabulary.Vocabulary.{Vocabulary}
use Rattle.grammar.specs.Declarations.{Declaration}
use Rattle.text.specs.Law.{Told, NextDue, ModelTold, NamesKnown, reading_after}
use Rattle.readings.specs.Histories.{Said, Begun}
use Rattle.readings.specs.Histories.Said.{no_text, tells}
use Rattle.readings.specs.Runs.{Start, AllGiven, HasGiven, reading_of}
use Rattle.readings.specs.declared.desk.Desk.{Desk}
use Rattle.readings.specs.declared.desk.Desk.TheVariants.{Idle, Reads}

-- what is known once the text is closed
abbrev pub Closed : {N : Type 0} → Desk N → Vocabulary → Type 0
Closed (Idle v) w = w ≡ v
Closed (Reads r) w = NamesKnown r w.names × (w.texts ≡ min 65535 (r.texts + 1))

-- what comes of asking for the next declaration
abbrev pub NextCame : {N : Type 0} → Desk N → Said → Desk N → Type 0
NextCame (Idle v) a d = (a ≡ no_text) × (d ≡ Idle v)
NextCame (Reads r) a d = (t : Told) × (a ≡ tells t) × NextDue r t × ModelTold r t × (d ≡ Reads (reading_after t r))

-- the desk stands behind the texts that were begun
abbrev pub StandsAt : {N : Type 0} → Start → List Begun → Desk N → Type 0
StandsAt s [] (Idle v) = (v.names ≡ s.known) × (v.texts ≡ s.texts)
StandsAt s [] (Reads r) = ⊥
StandsAt s (b ∷ bs) (Idle v) = ⊥
StandsAt s (b ∷ bs) (Reads r) =
    (before : List Declaration) × (here : List Declaration) × AllGiven s bs before × (r ≡ reading_of s before bs b) × HasGiven r here
