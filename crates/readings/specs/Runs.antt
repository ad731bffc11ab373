-- The law of a run over texts: what each call is answered, and what is known at the end. Assumes nothing.
use Rattle.std.specs.Prelude.{◌≡◌, ℕ, ◌+◌, min, true, List, [], ◌∷◌, ◌++◌, length, Option}
use Rattle.models.specs.Sheets.{is_model}
use Rattle.names.specs.Numbering.{known_after}
use Rattle.names.specs.declared.vocabulary.Vocabulary.{Vocabulary}
use Rattle.grammar.specs.Notations.{Notation}
use Rattle.grammar.specs.Declarations.{Declaration}
use Rattle.grammar.specs.Faults.{Cause}
use Rattle.text.specs.Causes.{text_notice}
use Rattle.text.specs.Law.{Reading, Told, NextDue, TextGives, names_of}
use Rattle.text.specs.Law.Told.{declares, none_left, wrong_sheet, fault, no_model}
use Rattle.readings.specs.Histories.{Asked, Said, History, Begun, texts_begun}
use Rattle.readings.specs.Histories.Asked.{begins, next}
use Rattle.readings.specs.Histories.Said.{begun, no_text, tells}

-- where a run begins: the notation of its texts, the names known before, and how many texts came before
pub record Start : Type 0 where
  pub notation : Notation
  pub known : List (List ℕ)
  pub texts : ℕ

abbrev pub start : Notation → Vocabulary → Start
start ν v = record { notation = ν; known = v.names; texts = v.texts }

-- the names known behind these declarations
abbrev pub known_with : Start → List Declaration → List (List ℕ)
known_with s ds = known_after s.known (names_of ds)

-- how many texts came before, counted up to 65,535, where these were begun
abbrev pub texts_with : Start → List Begun → ℕ
texts_with s bs = min 65535 (s.texts + length bs)

-- the reading of the text b, behind the texts bs, which gave the declarations ds
abbrev pub reading_of : Start → List Declaration → List Begun → Begun → Reading
reading_of s ds bs b = record { notation = s.notation; known = known_with s ds; texts = texts_with s bs; text = b.text; given = b.given }

-- these are the declarations that the reading has given
abbrev pub HasGiven : Reading → List Declaration → Type 0
HasGiven r ds = (more : List Declaration) × (end : Option (Cause × ℕ)) × TextGives r (ds ++ more) end × (length ds ≡ r.given)

-- these are all declarations that the texts have given, in order
abbrev pub AllGiven : Start → List Begun → List Declaration → Type 0
AllGiven s [] ds = ds ≡ []
AllGiven s (b ∷ bs) ds =
    (before : List Declaration) × (here : List Declaration)
    × AllGiven s bs before × HasGiven (reading_of s before bs b) here × (ds ≡ before ++ here)

-- the next declaration of the text begun last, where the names of all declarations before it are known; or there is no text
abbrev pub NextSaid : Start → List Begun → Said → Type 0
NextSaid s [] a = a ≡ no_text
NextSaid s (b ∷ bs) a =
    (before : List Declaration) × (t : Told) × AllGiven s bs before × NextDue (reading_of s before bs b) t × (a ≡ tells t)

-- what is due after a history
abbrev pub Due : Start → History → Asked → Said → Type 0
Due s h (begins text) a = a ≡ begun
Due s h next a = NextSaid s (texts_begun h) a

-- each call is answered as is due after all that came before it
abbrev pub Lawful : Start → History → Type 0
Lawful s [] = Unit {0}
Lawful s (e ∷ h) = Due s h e.asked e.said × Lawful s h

-- the names known behind a history: those of all declarations given
abbrev pub NamesKnown : Start → History → List (List ℕ) → Type 0
NamesKnown s h ks = (ds : List Declaration) × AllGiven s (texts_begun h) ds × (ks ≡ known_with s ds)

-- each text that was begun is counted
abbrev pub TextsCounted : Start → History → ℕ → Type 0
TextsCounted s h n = n ≡ texts_with s (texts_begun h)

-- the parts of each declaration told are a model
abbrev pub SaysModel : Said → Type 0
SaysModel begun = Unit {0}
SaysModel no_text = Unit {0}
SaysModel (tells (declares ps s n)) = is_model ps ≡ true
SaysModel (tells none_left) = Unit {0}
SaysModel (tells (wrong_sheet l)) = Unit {0}
SaysModel (tells (fault f)) = Unit {0}
SaysModel (tells no_model) = Unit {0}

abbrev pub ModelsSaid : History → Type 0
ModelsSaid [] = Unit {0}
ModelsSaid (e ∷ h) = SaysModel e.said × ModelsSaid h

-- the same is told: of a fault its number, layer and place, and how many texts and declarations came before
abbrev pub SameTold : Told → Told → Type 0
SameTold (fault f) (fault g) = text_notice f ≡ text_notice g
SameTold (fault f) (declares ps s n) = ⊥
SameTold (fault f) none_left = ⊥
SameTold (fault f) (wrong_sheet l) = ⊥
SameTold (fault f) no_model = ⊥
SameTold (declares ps s n) u = declares ps s n ≡ u
SameTold none_left u = none_left ≡ u
SameTold (wrong_sheet l) u = wrong_sheet l ≡ u
SameTold no_model u = no_model ≡ u

abbrev pub SameSaid : Said → Said → Type 0
SameSaid (tells t) (tells u) = SameTold t u
SameSaid (tells t) begun = ⊥
SameSaid (tells t) no_text = ⊥
SameSaid begun b = begun ≡ b
SameSaid no_text b = no_text ≡ b

abbrev pub SameAsked : History → History → Type 0
SameAsked [] [] = Unit {0}
SameAsked [] (k ∷ i) = ⊥
SameAsked (e ∷ h) [] = ⊥
SameAsked (e ∷ h) (k ∷ i) = (e.asked ≡ k.asked) × SameAsked h i

abbrev pub SameAnswers : History → History → Type 0
SameAnswers [] [] = Unit {0}
SameAnswers [] (k ∷ i) = ⊥
SameAnswers (e ∷ h) [] = ⊥
SameAnswers (e ∷ h) (k ∷ i) = SameSaid e.said k.said × SameAnswers h i

-- the law leaves no answer open, nor which names are known at the end
abbrev pub LawFixes : Start → Type 0
LawFixes s =
    (h i : History) → Lawful s h → Lawful s i → SameAsked h i
    → SameAnswers h i × ((ks ls : List (List ℕ)) → NamesKnown s h ks → NamesKnown s i ls → ks ≡ ls)
