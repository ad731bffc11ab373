-- What a reader of texts answers at each call, and what it leaves. Assumes nothing.
use Rattle.std.specs.Prelude.{◌≡◌, ℕ, ◌+◌, ◌-◌, ◌<◌, ◌≤◌, true, false, ◌==◌, List, [], ◌∷◌, ◌++◌, length, replicate, take, Some, None, Ok, Err, Option, Result}
use Rattle.parts.specs.declared.part.Part.{Part}
use Rattle.parts.specs.Parts.{blank}
use Rattle.names.specs.Numbering.{known_after, symbol_in}
use Rattle.models.specs.Sheets.{table_answer}
use Rattle.grammar.specs.Notations.{Notation}
use Rattle.grammar.specs.Declarations.{Declaration, all_names, all_signs, words}
use Rattle.grammar.specs.Declarations.Sign.{element, declared}
use Rattle.grammar.specs.Faults.{Cause, number, SignStands, parts_of, Gives}
use Rattle.grammar.specs.Meaning.{tree_of}
use Rattle.text.specs.Causes.{at_text, text_notice, Explained}
use Rattle.text.specs.declared.fault.TextFault.{TextFault}
use Rattle.text.specs.declared.declared.Declared.{Declared}
use Rattle.text.specs.declared.refusal.ReadRefusal.{ReadRefusal}
use Rattle.text.specs.declared.refusal.ReadRefusal.TheVariants.{SheetLength, Table, Text}

-- a reading that goes on: its notation, the names known before its text, how many texts came before, the text, and how many
-- declarations it has given
pub record Reading : Type 0 where
  pub notation : Notation
  pub known : List (List ℕ)
  pub texts : ℕ
  pub text : List ℕ
  pub given : ℕ

-- what is told: a declaration's parts, the symbol of its element and the element's name; that none is left; that the sheet has
-- not 256 parts, but so many; the first fault of the text; or that the parts make no model, which never comes
pub data Told : Type 0 where
  declares : List Part → ℕ → List ℕ → Told
  none_left : Told
  wrong_sheet : ℕ → Told
  fault : TextFault → Told
  no_model : Told

abbrev pub told : Result (Option Declared) ReadRefusal → List Part → Told
told (Ok None) sheet = none_left
told (Ok (Some d)) sheet = declares (take d.length sheet) d.symbol d.name.now
told (Err (SheetLength l)) sheet = wrong_sheet l
told (Err (Text f)) sheet = fault f
told (Err (Table refusal)) sheet = no_model

-- the names of declarations, in order
abbrev pub names_of : List Declaration → List (List ℕ)
names_of [] = []
names_of (d ∷ ds) = all_names d ++ names_of ds

-- what the text gives
abbrev pub TextGives : Reading → List Declaration → Option (Cause × ℕ) → Type 0
TextGives r ds end = Gives r.notation r.known r.text ds end

-- the names known behind declarations of the text
abbrev pub known_behind : Reading → List Declaration → List (List ℕ)
known_behind r ds = known_after r.known (names_of ds)

-- what is due next: the declaration that the text gives next, its names becoming symbols behind those known; or none, where it
-- has given all; or the text's first fault, where it has given all before that
abbrev pub NextDue : Reading → Told → Type 0
NextDue r (declares ps s n) =
    (ds : List Declaration) × (d : Declaration) × (more : List Declaration) × (end : Option (Cause × ℕ))
    × TextGives r (ds ++ (d ∷ more)) end × (length ds ≡ r.given) × (n ≡ d.name)
    × (s ≡ symbol_in (known_behind r (ds ++ (d ∷ []))) d.name) × (ps ≡ parts_of (known_behind r ds) d)
NextDue r none_left = (ds : List Declaration) × TextGives r ds None × (length ds ≡ r.given)
NextDue r (wrong_sheet l) = ⊥
NextDue r (fault f) =
    (ds : List Declaration) × (c : Cause) × TextGives r ds (Some (c, f.place)) × (length ds ≡ r.given)
    × (text_notice f ≡ record { notice = at_text (number r.notation c) f.place; texts = r.texts; declarations = r.given })
    × Explained r.notation r.known r.text f.place f.cause
NextDue r no_model = ⊥

-- asked first: has the sheet exactly 256 parts
abbrev pub NextAsked : Reading → ℕ → Told → Type 0
NextAsked r l t = elim (l == 256) [ true ↦ NextDue r t | false ↦ t ≡ wrong_sheet l ]

-- the sheet afterwards: the parts and blank parts behind them, or as it was
abbrev pub SheetAfter : Told → List Part → List Part → Type 0
SheetAfter (declares ps s n) old new = new ≡ ps ++ replicate (256 - length ps) blank
SheetAfter t old new = new ≡ old

-- the reading afterwards
abbrev pub reading_after : Told → Reading → Reading
reading_after (declares ps s n) r = record r { given = r.given + 1 }
reading_after t r = r

-- the parts told are a model, whose tree is the meaning of the content
abbrev pub ModelTold : Reading → Told → Type 0
ModelTold r (declares ps s n) =
    (ds : List Declaration) (d : Declaration) (more : List Declaration) (end : Option (Cause × ℕ))
    → TextGives r (ds ++ (d ∷ more)) end → length ds ≡ r.given
    → table_answer ps ≡ Ok (tree_of (known_behind r (ds ++ (d ∷ []))) (words d.content))
ModelTold r t = Unit {0}

-- where the name of the declaration stands in the text: behind the declarations given before and the word that begins this one
abbrev pub PlaceTold : Reading → Result (Option Declared) ReadRefusal → Type 0
PlaceTold r (Ok (Some d)) =
    (ds more : List Declaration) (end : Option (Cause × ℕ))
    → TextGives r (ds ++ more) end → length ds ≡ r.given → SignStands r.notation r.text d.place (all_signs ds ++ (element ∷ [])) (declared d.name.now)
PlaceTold r result = Unit {0}

-- a declaration is told only where the text has given fewer than 32, and its model has at most 256 parts
abbrev pub WithinLimits : Reading → Result (Option Declared) ReadRefusal → Type 0
WithinLimits r (Ok (Some d)) = (r.given < 32) × (d.length ≤ 256)
WithinLimits r result = Unit {0}

-- the names known in a reading: those behind the declarations that it has given
abbrev pub NamesKnown : Reading → List (List ℕ) → Type 0
NamesKnown r ks =
    (ds more : List Declaration) (end : Option (Cause × ℕ)) → TextGives r (ds ++ more) end → length ds ≡ r.given → ks ≡ known_behind r ds
