-- What the five families say together. Assumes nothing.
use Rattle.std.specs.Prelude.{ℕ, [], None, Decides}
use Rattle.models.specs.Conflicts.{ConflictFree}
use Rattle.models.specs.Messages.{Message}
use Rattle.models.specs.Trees.{Tree, Fits, Stands, Formed}
use Rattle.rules.specs.Rules.{KeepsAll, Breaks, SomeBreaks, FirstIs}
use Rattle.summaries.specs.SymbolsOf.{StandingAre}
use Rattle.set.specs.Five.{five}
use Rattle.set.specs.Holding.{holds, symbols_in, takes_empty}

-- a message keeps all rules of the five lists exactly when it fits
abbrev pub Exact : Tree → Type 0
Exact t = (m : Message) → (KeepsAll (five t) m → Fits t m) × (Fits t m → KeepsAll (five t) m)

-- every message of the one fits the other
abbrev pub Included : Tree → Tree → Type 0
Included sent expected = (m : Message) → Fits sent m → Fits expected m

-- no rule is broken by a message of the sent model exactly when each of them fits the expected one
abbrev pub IncludedExactly : Tree → Tree → Type 0
IncludedExactly sent expected =
    (FirstIs (SomeBreaks sent) (five expected) None → Included sent expected) × (Included sent expected → FirstIs (SomeBreaks sent) (five expected) None)

-- no rule is broken by the message exactly when it fits
abbrev pub FitsExactly : Tree → Message → Type 0
FitsExactly t m = (FirstIs (Breaks m) (five t) None → Fits t m) × (Fits t m → FirstIs (Breaks m) (five t) None)

-- so it is for every conflict-free model: exactness, and what no rule being broken says of a
-- sent model and of a message
abbrev pub FiveExact : Type 0
FiveExact = (t : Tree) → Formed t → ConflictFree t → Exact t

abbrev pub FiveInclude : Type 0
FiveInclude = (sent expected : Tree) → Formed expected → ConflictFree expected → IncludedExactly sent expected

abbrev pub FiveFit : Type 0
FiveFit = (t : Tree) (m : Message) → Formed t → ConflictFree t → FitsExactly t m

-- what is worked out of a well-formed tree says what is so of its parts and messages
abbrev pub ValuesTell : Type 0
ValuesTell = (t : Tree) → Formed t → Decides (takes_empty t) (Fits t []) × StandingAre t (symbols_in t) × ((s : ℕ) → Decides (holds s t) (Stands t s))
