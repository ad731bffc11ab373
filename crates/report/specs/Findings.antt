-- What is found of an element of a sent text. Assumes nothing.
use Rattle.std.specs.Prelude.{◌≡◌, ℕ, List, [], Some, None, Ok, Option, find, ◌==◌}
use Rattle.models.specs.Conflicts.{first_conflict_of}
use Rattle.models.specs.Sheets.{table_answer}
use Rattle.models.specs.Trees.{Tree}
use Rattle.rules.specs.declared.verdict.Verdict.{Verdict}
use Rattle.set.specs.Histories.{named}
use Rattle.set.specs.Histories.Told.{included}
use Rattle.set.specs.Law.{ComparedTo}
use Rattle.listing.specs.declared.listed.Listed.{Listed}
use Rattle.report.specs.declared.finding.Finding.{Finding}
use Rattle.report.specs.declared.finding.Finding.TheVariants.{Included, Breaks, Conflict, Alone}

-- the declaration of the symbol's name: the first of the elements with the symbol
abbrev pub declared_as : ℕ → List Listed → Option Listed
declared_as s es = find (λ e. e.symbol == s) es

-- what is found where a rule is broken, or none
abbrev pub found_of : Option Verdict → Finding
found_of None = Included
found_of (Some v) = Breaks v

-- of two models, t sent and u expected, the name of the latter standing at a place
abbrev pub PairFound : Tree → Tree → ℕ → Finding → Type 0
PairFound t u at Included = (first_conflict_of u ≡ None) × ComparedTo t u [] included
PairFound t u at (Breaks v) = (first_conflict_of u ≡ None) × ComparedTo t u [] (named included (Some v))
PairFound t u at (Conflict name part) = (name ≡ at) × (first_conflict_of u ≡ Some part)
PairFound t u at Alone = ⊥

-- of an element that both texts declare
abbrev pub BothFound : Listed → Listed → Finding → Type 0
BothFound a e f = (t : Tree) (u : Tree) → table_answer a.parts.items ≡ Ok t → table_answer e.parts.items ≡ Ok u → PairFound t u e.place f

abbrev pub FoundBy : Listed → Option Listed → Finding → Type 0
FoundBy a None f = f ≡ Alone
FoundBy a (Some e) f = BothFound a e f

-- of an element a, where these are the elements of the expected text
abbrev pub FindingIs : Listed → List Listed → Finding → Type 0
FindingIs a es f = FoundBy a (declared_as a.symbol es) f
