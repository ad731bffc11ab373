-- What comes of two texts that are compared. Assumes nothing.
use Rattle.std.specs.Prelude.{◌≡◌, ℕ, ◌⊎◌, List, [], ◌++◌, codes, decimal, take, Some, None, Ok, Err, Option, Result}
use Rattle.names.specs.declared.vocabulary.Vocabulary.{Vocabulary}
use Rattle.grammar.specs.Notations.Notation.{dtd}
use Rattle.text.specs.Causes.{text_notice}
use Rattle.text.specs.Positions.{position_of}
use Rattle.text.specs.Refused.{cause_said, text_fault_said}
use Rattle.text.specs.declared.fault.TextFault.{TextFault}
use Rattle.listing.specs.Listings.{ListingOf}
use Rattle.listing.specs.declared.listing.Listing.{Listing}
use Rattle.report.specs.Reports.{ReportWritten}
use Rattle.report.specs.declared.compare.NotCompared.{NotCompared}
use Rattle.report.specs.declared.compare.NotCompared.TheVariants.{Refused, Io}
use Rattle.report.specs.declared.compare.Source.{Source}
use Rattle.report.specs.declared.side.Side.{Side}
use Rattle.report.specs.declared.tally.Tally.{Tally}

-- where a text is at fault, and why
abbrev pub fault_said : List ℕ → List ℕ → TextFault → List ℕ
fault_said path text f =
    let at = position_of (take f.place text) in
    path ++ (codes ":" ++ (decimal at.line ++ (codes ":" ++ (decimal at.column ++ (codes ": " ++ (cause_said f.cause ++ (codes "; " ++ text_fault_said (text_notice f))))))))

-- what the system says of an error is not known
abbrev pub not_compared_said : NotCompared → Option (List ℕ)
not_compared_said (Refused r) = Some (fault_said r.source.path.now r.source.text.now r.fault)
not_compared_said (Io error) = None

-- memory that ran out, or what is not written
abbrev pub IsIo : NotCompared → Type 0
IsIo (Refused r) = ⊥
IsIo (Io error) = Unit {0}

-- a text is read whole, or refused for its first fault
abbrev pub SourceRead : Vocabulary → Source → Result Listing NotCompared → Type 0
SourceRead v s (Ok l) = ListingOf dtd v s.text.now l × (l.fault ≡ None)
SourceRead v s (Err (Refused r)) = (l : Listing) × ListingOf dtd v s.text.now l × (l.fault ≡ Some r.fault) × (r.source ≡ s)
SourceRead v s (Err (Io error)) = Unit {0}

-- no names are known, and no text was read
abbrev pub blank_vocabulary : Vocabulary
blank_vocabulary = record { names = []; texts = 0 }

-- the elements of a text, with its path
abbrev pub SideOf : Source → Listing → Side → Type 0
SideOf s l side = (side.path.now ≡ s.path.now) × (side.text.now ≡ s.text.now) × (side.elements.now ≡ l.elements.items)

-- both texts are read, the sent one first, and the report is written; or one of them is refused
abbrev pub TextsCompared : Source → Source → Option (List ℕ) → Option (List ℕ) → Result Tally NotCompared → Type 0
TextsCompared sent expected old new (Ok t) =
    (l : Listing) × (m : Listing) × (here : Side) × (there : Side)
    × SourceRead blank_vocabulary sent (Ok l) × SourceRead l.vocabulary expected (Ok m) × SideOf sent l here × SideOf expected m there
    × ReportWritten {E = NotCompared} m.vocabulary.names here there old new (Ok t)
TextsCompared sent expected old new (Err (Refused r)) =
    (new ≡ old)
    × (SourceRead blank_vocabulary sent (Err (Refused r))
    ⊎ ((l : Listing) × SourceRead blank_vocabulary sent (Ok l) × SourceRead l.vocabulary expected (Err (Refused r))))
TextsCompared sent expected old new (Err (Io error)) = Unit {0}
