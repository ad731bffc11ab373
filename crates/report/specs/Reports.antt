-- What is written of two texts. Assumes nothing.
use Rattle.std.specs.Prelude.{◌≡◌, ℕ, List, [], ◌∷◌, ◌++◌, length, map, All, filter, flat_map, is_none, Ok, Err, Option, Result}
use Rattle.std.specs.Io.KnownBytes.{Appends}
use Rattle.listing.specs.declared.listed.Listed.{Listed}
use Rattle.report.specs.declared.finding.Finding.{Finding}
use Rattle.report.specs.declared.finding.Finding.TheVariants.{Alone}
use Rattle.report.specs.declared.side.Side.{Side}
use Rattle.report.specs.declared.tally.Tally.{Tally}
use Rattle.report.specs.Findings.{declared_as, FindingIs}
use Rattle.report.specs.Lines.{Source, side_of, line_said}
use Rattle.report.specs.Tallies.{tally_of, summary_said}

-- a line ends with a line feed, 10
abbrev pub written_line : List (List ℕ) → Source → Source → Listed → Finding → List ℕ
written_line names here there e f = line_said names here there e.symbol e.place f ++ (10 ∷ [])

-- what is found of each element of the sent text, in order
abbrev pub AreFound : Side → Side → List (Listed × Finding) → Type 0
AreFound sent expected ps = (map (λ p. p.0) ps ≡ sent.elements.now) × All (λ p. FindingIs p.0 expected.elements.now p.1) ps

abbrev pub sent_said : List (List ℕ) → Side → Side → List (Listed × Finding) → List ℕ
sent_said names sent expected ps = flat_map (λ p. written_line names (side_of sent) (side_of expected) p.0 p.1) ps

-- the elements that the expected text alone declares, in its order
abbrev pub missing_of : Side → Side → List Listed
missing_of sent expected = filter (λ e. is_none (declared_as e.symbol sent.elements.now)) expected.elements.now

abbrev pub missing_said : List (List ℕ) → Side → Side → List ℕ
missing_said names sent expected = flat_map (λ e. written_line names (side_of expected) (side_of sent) e Alone) (missing_of sent expected)

-- the lines of the sent text's elements are written, and counted
abbrev pub SentWritten : {E : Type 0} → List (List ℕ) → Side → Side → Option (List ℕ) → Option (List ℕ) → Result Tally E → Type 0
SentWritten names sent expected old new (Ok t) =
    (ps : List (Listed × Finding)) × AreFound sent expected ps × Appends old new (sent_said names sent expected ps) × (t ≡ tally_of (map (λ p. p.1) ps))
SentWritten names sent expected old new (Err error) = Unit {0}

abbrev pub MissingWritten : {E : Type 0} → List (List ℕ) → Side → Side → Option (List ℕ) → Option (List ℕ) → Result ℕ E → Type 0
MissingWritten names sent expected old new (Ok n) = Appends old new (missing_said names sent expected) × (n ≡ length (missing_of sent expected))
MissingWritten names sent expected old new (Err error) = Unit {0}

-- all lines are written, and the one that counts
abbrev pub ReportWritten : {E : Type 0} → List (List ℕ) → Side → Side → Option (List ℕ) → Option (List ℕ) → Result Tally E → Type 0
ReportWritten names sent expected old new (Ok t) =
    (ps : List (Listed × Finding)) × AreFound sent expected ps
    × Appends old new
    (sent_said names sent expected ps ++ (missing_said names sent expected
    ++ (summary_said sent.path.now expected.path.now (length sent.elements.now) t ++ (10 ∷ []))))
    × (t ≡ record (tally_of (map (λ p. p.1) ps)) { missing = length (missing_of sent expected) })
ReportWritten names sent expected old new (Err error) = Unit {0}
