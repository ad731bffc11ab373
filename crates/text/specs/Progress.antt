-- How far a text has been read, as private contracts and proofs say it: no public promise rests on it. Assumes nothing.
use Rattle.std.specs.Prelude.{◌≡◌, ℕ, ◌<◌, ◌≤◌, Bool, true, false, List, [], ◌∷◌, ◌++◌, length, Some, Ok, Err, Result}
use Rattle.parts.specs.Sets.{In}
use Rattle.names.specs.Numbering.{symbol_in, is_known, known_after}
use Rattle.grammar.specs.Notations.{Notation}
use Rattle.grammar.specs.Declarations.{Declaration, Sign}
use Rattle.grammar.specs.Declarations.Sign.{element, declared, inner}
use Rattle.grammar.specs.Words.Sign.{names}
use Rattle.grammar.specs.Faults.{Cause, Gives, Repeats, Beyond, Faultless, names_among, begun, is_declared}
use Rattle.grammar.specs.Faults.Cause.{kind, again, beyond}
use Rattle.grammar.specs.Machine.{Spot}
use Rattle.grammar.specs.Progress.{StandsAt}
use Rattle.text.specs.Causes.{cause_of, CauseIs, Explained}
use Rattle.text.specs.declared.cursor.Cursor.{Cursor}
use Rattle.text.specs.declared.elements.Elements.{Elements}
use Rattle.text.specs.declared.fault.TextCause.{TextCause}
use Rattle.text.specs.declared.fault.PlacedCause.{PlacedCause}

-- a sign that is no name and with which no declaration begins
abbrev pub is_plain_sign : Sign → Bool
is_plain_sign element = false
is_plain_sign (declared n) = false
is_plain_sign (inner (names n)) = false
is_plain_sign s = true

-- of the known names, exactly those that the signs declare have their symbol in the set, and nothing else is in it
abbrev pub DeclaredAre : List (List ℕ) → List Sign → ℕ → Type 0
DeclaredAre known ss set =
    ((n : List ℕ) → is_known known n ≡ true
    → (is_declared n ss ≡ true → In set (symbol_in known n)) × (In set (symbol_in known n) → is_declared n ss ≡ true))
    × ((s : ℕ) → In set s → s < length known)

-- the names, the declared ones among them and the declarations begun are those of these signs, behind the names ks
pub record ElementsAre (ν : Notation) (ks : List (List ℕ)) (ss : List Sign) (e : Elements) : Type 0 where
  pub names : e.names ≡ known_after ks (names_among ss)
  pub begun : e.begun ≡ begun ν ss
  pub declared : DeclaredAre e.names ss e.declared.bits

-- names were only added
abbrev pub NamesGrow : Elements → Elements → Type 0
NamesGrow old new = (ns : List (List ℕ)) × (new.names ≡ known_after old.names ns)

-- the sign s behind the signs ss is at fault, by this cause
abbrev pub AtFaultBy : Notation → List (List ℕ) → List Sign → Sign → TextCause → Type 0
AtFaultBy ν ks ss s cause = CauseIs ks ss s cause × IsFault (cause_of cause) ν ks ss s
  where
    IsFault : Cause → Notation → List (List ℕ) → List Sign → Sign → Type 0
    IsFault kind ν ks ss s = ⊥
    IsFault again ν ks ss s = Repeats ss s
    IsFault beyond ν ks ss s = (Repeats ss s → ⊥) × Beyond ν ks ss s

-- the sign is taken in, or it is at fault
abbrev pub TakenIn : {X : Type 0} → Notation → List (List ℕ) → List Sign → Sign → Result X TextCause → Elements → Type 0
TakenIn ν ks ss s (Ok x) e = Faultless ν ks ss s × ElementsAre ν ks (ss ++ (s ∷ [])) e
TakenIn ν ks ss s (Err cause) e = AtFaultBy ν ks ss s cause

-- the symbol is that of the name
abbrev pub SymbolIs : List ℕ → Result ℕ TextCause → Elements → Type 0
SymbolIs n (Ok s) e = (s ≡ symbol_in e.names n) × (is_known e.names n ≡ true) × (length e.names ≤ 64)
SymbolIs n (Err cause) e = Unit {0}

-- the cursor stands at the spot σ of the text, behind white space or not
pub record CursorAt (ks : List (List ℕ)) (bytes : List ℕ) (σ : Spot) (h : Bool) (c : Cursor) : Type 0 where
  pub text : c.text.now ≡ bytes
  pub at : StandsAt ks bytes c.at σ h

-- it is the first fault of the text, behind these declarations
abbrev pub Fails : Notation → List (List ℕ) → List ℕ → List Declaration → PlacedCause → Type 0
Fails ν ks bytes ds f = Gives ν ks bytes ds (Some (cause_of f.cause, f.place)) × Explained ν ks bytes f.place f.cause
