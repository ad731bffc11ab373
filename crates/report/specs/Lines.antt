-- The line that is told of an element. Assumes nothing.
use Rattle.std.specs.Prelude.{ℕ, List, ◌++◌, codes, decimal, take}
use Rattle.text.specs.Positions.{position_of}
use Rattle.wording.specs.Symbols.{symbol_said}
use Rattle.wording.specs.Verdicts.{verdict_said_by}
use Rattle.wording.specs.Sentences.{sentence_of}
use Rattle.report.specs.declared.finding.Finding.{Finding}
use Rattle.report.specs.declared.finding.Finding.TheVariants.{Included, Breaks, Conflict, Alone}
use Rattle.report.specs.declared.side.Side.{Side}

-- a text, and the path of its file
pub record Source : Type 0 where
  pub path : List ℕ
  pub text : List ℕ

abbrev pub side_of : Side → Source
side_of s = record { path = s.path.now; text = s.text.now }

-- a place of a text: its path and the line
abbrev pub place_said : Source → ℕ → List ℕ
place_said s place = s.path ++ (codes ":" ++ decimal (position_of (take place s.text)).line)

-- what is found of an element, where the second text is the other one
abbrev pub finding_said : List (List ℕ) → Source → Source → Finding → List ℕ
finding_said names here there Included = codes "included"
finding_said names here there (Breaks v) = verdict_said_by names v ++ (codes "; " ++ sentence_of names v)
finding_said names here there (Conflict name part) =
    codes "not compared; the model at " ++ (place_said there name ++ (codes " has a conflict at part " ++ decimal part))
finding_said names here there Alone = codes "declared in " ++ (here.path ++ codes " alone")

-- with the place of the element, and its name
abbrev pub line_said : List (List ℕ) → Source → Source → ℕ → ℕ → Finding → List ℕ
line_said names here there symbol place f =
    place_said here place ++ (codes ": " ++ (symbol_said names symbol ++ (codes ": " ++ finding_said names here there f)))
