-- What is true of a reader between its calls: no public promise rests on it. Assumes nothing.
use Rattle.std.specs.Prelude.{◌≡◌, ℕ, ◌≤◌, List, length, take, Some, None, Option}
use Rattle.names.specs.Numbering.{known_after}
use Rattle.grammar.specs.Notations.{Notation}
use Rattle.grammar.specs.Declarations.{Declaration}
use Rattle.text.specs.Between.{Between, GivesFirst}
use Rattle.text.specs.Law.{names_of}
use Rattle.text.specs.Progress.{Fails}
use Rattle.text.specs.declared.cursor.Cursor.{Cursor}
use Rattle.text.specs.declared.elements.Elements.{Elements}
use Rattle.text.specs.declared.fault.TextFault.{TextFault}

-- it stands behind the declarations given; or the text's first fault was come to, and the names are those of the declarations given
abbrev pub StandsWith : Notation → List (List ℕ) → List ℕ → List Declaration → Cursor → Elements → ℕ → ℕ → Option TextFault → Type 0
StandsWith ν ks bytes ds c e texts given None = Between ν ks bytes ds c e
StandsWith ν ks bytes ds c e texts given (Some f) =
    Fails ν ks bytes ds (record { cause = f.cause; place = f.place }) × (f.texts ≡ texts) × (f.declarations ≡ given)
    × (e.names ≡ known_after ks (names_of ds))

pub record Standing (ν : Notation) (bytes : List ℕ) (c : Cursor) (e : Elements) (known texts given : ℕ) (fault : Option TextFault) : Type 0 where
  pub names : known ≤ length e.names
  pub ds : List Declaration
  pub count : length ds ≡ given
  pub first : GivesFirst ν (take known e.names) bytes ds
  pub stands : StandsWith ν (take known e.names) bytes ds c e texts given fault
