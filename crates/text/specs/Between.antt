-- Where a reader stands between declarations, and what reading the next one owes, in any notation. Assumes nothing.
use Rattle.std.specs.Prelude.{◌≡◌, ℕ, ◌<◌, ◌≤◌, List, [], ◌∷◌, ◌++◌, length, take, Some, None, Ok, Err, Option, Result}
use Rattle.parts.specs.declared.part.Part.{Part}
use Rattle.names.specs.Numbering.{symbol_in}
use Rattle.models.specs.Written.{sheet}
use Rattle.grammar.specs.Notations.{Notation}
use Rattle.grammar.specs.Declarations.{Declaration, all_signs, IsText, words}
use Rattle.grammar.specs.Declarations.Sign.{element, declared}
use Rattle.grammar.specs.Faults.{Cause, SignStands, Gives, AllFaultless}
use Rattle.grammar.specs.Meaning.{tree_of}
use Rattle.text.specs.Contents.{Made, made_of}
use Rattle.text.specs.Progress.{ElementsAre, Fails}
use Rattle.text.specs.declared.cursor.Cursor.{Cursor}
use Rattle.text.specs.declared.element.Element.{Element}
use Rattle.text.specs.declared.elements.Elements.{Elements}
use Rattle.text.specs.declared.fault.PlacedCause.{PlacedCause}

-- the cursor stands behind these declarations of the text, of which nothing is at fault
pub record Between (ν : Notation) (ks : List (List ℕ)) (bytes : List ℕ) (ds : List Declaration) (c : Cursor) (e : Elements) : Type 0 where
  pub text : c.text.now ≡ bytes
  pub read : IsText ν (take c.at bytes) ds
  pub faultless : AllFaultless ν ks (all_signs ds)
  pub elements : ElementsAre ν ks (all_signs ds) e

-- the text gives these declarations first
abbrev pub GivesFirst : Notation → List (List ℕ) → List ℕ → List Declaration → Type 0
GivesFirst ν ks bytes ds = (more : List Declaration) × (end : Option (Cause × ℕ)) × Gives ν ks bytes (ds ++ more) end

-- the model of a declaration, where these names are known
abbrev pub model_parts : List (List ℕ) → Declaration → List Part
model_parts ks d = sheet (tree_of ks (words d.content))

-- the declaration d behind the declarations ds was read
pub record Declares (ν : Notation) (ks : List (List ℕ)) (bytes : List ℕ) (ds : List Declaration) (d : Declaration) (el : Element) (c : Cursor) (e : Elements) (m : Made) : Type 0 where
  pub between : Between ν ks bytes (ds ++ (d ∷ [])) c e
  pub first : GivesFirst ν ks bytes (ds ++ (d ∷ []))
  pub name : el.name.now ≡ d.name
  pub stands : SignStands ν bytes el.place (all_signs ds ++ (element ∷ [])) (declared d.name)
  pub symbol : el.symbol ≡ symbol_in e.names d.name
  pub made : m ≡ made_of (model_parts e.names d)
  pub parts : length (model_parts e.names d) ≤ 256
  pub few : length ds < 32

-- the next declaration, or the text's end, or its first fault
abbrev pub Declared : Notation → List (List ℕ) → List ℕ → List Declaration → Result (Option Element) PlacedCause → Cursor → Elements → Made → Type 0
Declared ν ks bytes ds (Ok None) c e m = Gives ν ks bytes ds None × Between ν ks bytes ds c e
Declared ν ks bytes ds (Ok (Some el)) c e m = (d : Declaration) × Declares ν ks bytes ds d el c e m
Declared ν ks bytes ds (Err f) c e m = Fails ν ks bytes ds f
