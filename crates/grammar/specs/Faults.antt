-- What reading a text gives: its declarations, and then its end or its first fault. Assumes nothing.
use Rattle.std.specs.Prelude.{◌≡◌, ℕ, zero, suc, ◌+◌, ◌-◌, ◌<◌, ◌≤◌, ◌⊎◌, Bool, true, false, cond, List, [], ◌∷◌, ◌++◌, length, take, Some, None, Option}
use Rattle.std.specs.Str.{bytes_eq}
use Rattle.grammar.specs.Bytes.{NameEnds}
use Rattle.grammar.specs.Words.Sign.{names, opens, closes}
use Rattle.names.specs.Numbering.{is_known, known_after}
use Rattle.grammar.specs.Meaning.{tree_of}
use Rattle.parts.specs.declared.part.Part.{Part}
use Rattle.models.specs.Written.{sheet}
use Rattle.grammar.specs.Notations.{Notation}
use Rattle.grammar.specs.Notations.Notation.{dtd}
use Rattle.grammar.specs.Declarations.{Declaration, Sign, Token, TokensOf, IsText, AreDeclarations, words, all_names, all_signs, signs_of, sign_bytes, written}
use Rattle.grammar.specs.Declarations.Sign.{element, declared, empty_word, any_word, pcdata_word, inner, ends}

-- some text of declarations begins with these bytes
abbrev pub Begins : Notation → List ℕ → Type 0
Begins ν start = (more : List ℕ) × (ds : List Declaration) × IsText ν (start ++ more) ds

-- n is the length of the longest start of the bytes with which such a text begins
abbrev pub LongestStart : Notation → List ℕ → ℕ → Type 0
LongestStart ν bytes n = (n ≤ length bytes) × Begins ν (take n bytes) × ((k : ℕ) → n < k → k ≤ length bytes → Begins ν (take k bytes) → ⊥)

-- where the sign is a name, it ends before the rest
abbrev pub EndsWell : Sign → List ℕ → Type 0
EndsWell (declared n) rest = NameEnds rest
EndsWell (inner (names n)) rest = NameEnds rest
EndsWell s rest = Unit {0}

-- the sign s stands at the place q behind the signs ss: these tokens are at the front of the bytes, and such a text begins with them
abbrev pub SignStands : Notation → List ℕ → ℕ → List Sign → Sign → Type 0
SignStands ν bytes q ss s =
    (ts : List Token) × (gap : List ℕ) × (rest : List ℕ)
    × (signs_of ts ≡ ss) × (q ≡ length (written ν ts ++ gap)) × (bytes ≡ (written ν ts ++ gap) ++ (sign_bytes ν s ++ rest)) × EndsWell s rest
    × (more : List Token) × (ds : List Declaration) × TokensOf ν (ts ++ (record { gap = gap; sign = s } ∷ more)) ds

-- the names among signs, and how many declarations have begun, and how many groups are open
abbrev pub names_among : List Sign → List (List ℕ)
names_among [] = []
names_among (declared n ∷ ss) = n ∷ names_among ss
names_among (inner (names n) ∷ ss) = n ∷ names_among ss
names_among (s ∷ ss) = names_among ss

abbrev pub begun : Notation → List Sign → ℕ
begun dtd [] = zero
begun dtd (element ∷ ss) = suc (begun dtd ss)
begun dtd (s ∷ ss) = begun dtd ss

abbrev pub open_groups : ℕ → List Sign → ℕ
open_groups n [] = n
open_groups n (inner opens ∷ ss) = open_groups (n + 1) ss
open_groups n (inner closes ∷ ss) = open_groups (n - 1) ss
open_groups n (s ∷ ss) = open_groups n ss

-- a declaration has its name already
abbrev pub is_declared : List ℕ → List Sign → Bool
is_declared n [] = false
is_declared n (declared m ∷ ss) = cond (bytes_eq m n) true (is_declared n ss)
is_declared n (s ∷ ss) = is_declared n ss

abbrev pub parts_of : List (List ℕ) → Declaration → List Part
parts_of ks d = sheet (tree_of (known_after ks (all_names d)) (words d.content))

-- after the signs ss the sign repeats a name, or is ANY
abbrev pub Repeats : List Sign → Sign → Type 0
Repeats ss (declared n) = is_declared n ss ≡ true
Repeats ss any_word = Unit {0}
Repeats ss element = ⊥
Repeats ss empty_word = ⊥
Repeats ss pcdata_word = ⊥
Repeats ss (inner s) = ⊥
Repeats ss ends = ⊥

-- a name of over 32 bytes, or a sixty-fifth name
abbrev pub NameBeyond : List (List ℕ) → List Sign → List ℕ → Type 0
NameBeyond ks ss n =
    (32 < length n) ⊎ ((is_known (known_after ks (names_among ss)) n ≡ false) × (64 ≤ length (known_after ks (names_among ss))))

-- the last declaration of the signs has over 256 parts; its symbols do not matter for their number
abbrev pub PartsBeyond : List Sign → Type 0
PartsBeyond ss =
    (ds : List Declaration) × (d : Declaration) × (ss ≡ all_signs (ds ++ (d ∷ []))) × AreDeclarations (ds ++ (d ∷ [])) × (256 < length (parts_of [] d))

-- after the signs ss the sign passes a limit, where ks are the names known before the text
abbrev pub Beyond : Notation → List (List ℕ) → List Sign → Sign → Type 0
Beyond ν ks ss element = 32 ≤ begun ν ss
Beyond ν ks ss (declared n) = NameBeyond ks ss n
Beyond ν ks ss (inner (names n)) = NameBeyond ks ss n
Beyond ν ks ss (inner opens) = 16 ≤ open_groups zero ss
Beyond ν ks ss ends = PartsBeyond (ss ++ (ends ∷ []))
Beyond ν ks ss s = ⊥

-- a sign that is not at fault, and signs of which none is: that asks for no place
abbrev pub Faultless : Notation → List (List ℕ) → List Sign → Sign → Type 0
Faultless ν ks ss s = (Repeats ss s → ⊥) × (Beyond ν ks ss s → ⊥)

abbrev pub AllFaultless : Notation → List (List ℕ) → List Sign → Type 0
AllFaultless ν ks us = (ss : List Sign) (s : Sign) (more : List Sign) → us ≡ (ss ++ (s ∷ [])) ++ more → Faultless ν ks ss s

pub data Cause : Type 0 where
  kind : Cause
  again : Cause
  beyond : Cause

abbrev pub number : Notation → Cause → ℕ
number dtd kind = 14
number dtd again = 15
number dtd beyond = 16

abbrev pub FaultAt : Notation → List (List ℕ) → List ℕ → Cause → ℕ → Type 0
FaultAt ν ks bytes kind q = ((ds : List Declaration) → IsText ν bytes ds → ⊥) × LongestStart ν bytes q
FaultAt ν ks bytes again q = (ss : List Sign) × (s : Sign) × SignStands ν bytes q ss s × Repeats ss s
FaultAt ν ks bytes beyond q = (ss : List Sign) × (s : Sign) × SignStands ν bytes q ss s × Beyond ν ks ss s

-- the earliest place decides, and then the lower number
abbrev pub FirstFault : Notation → List (List ℕ) → List ℕ → Cause → ℕ → Type 0
FirstFault ν ks bytes c q =
    FaultAt ν ks bytes c q × ((d : Cause) (r : ℕ) → FaultAt ν ks bytes d r → (q < r) ⊎ ((q ≡ r) × (number ν c ≤ number ν d)))

-- ds are the declarations that end before the place q, all of them
abbrev pub EndBefore : Notation → List ℕ → ℕ → List Declaration → Type 0
EndBefore ν bytes q ds =
    ((n : ℕ) × (n ≤ q) × IsText ν (take n bytes) ds)
    × ((m : ℕ) (es : List Declaration) → m ≤ q → IsText ν (take m bytes) es → (more : List Declaration) × (ds ≡ es ++ more))

-- what a text gives where ks are the names known before it: all its declarations and no fault, or those before its first fault
abbrev pub Gives : Notation → List (List ℕ) → List ℕ → List Declaration → Option (Cause × ℕ) → Type 0
Gives ν ks bytes ds None = IsText ν bytes ds × ((c : Cause) (q : ℕ) → FaultAt ν ks bytes c q → ⊥)
Gives ν ks bytes ds (Some (c, q)) = FirstFault ν ks bytes c q × EndBefore ν bytes q ds

-- and nothing else
abbrev pub GivesOne : Notation → Type 0
GivesOne ν =
    (ks : List (List ℕ)) (bytes : List ℕ) (ds es : List Declaration) (a b : Option (Cause × ℕ))
    → Gives ν ks bytes ds a → Gives ν ks bytes es b → (ds ≡ es) × (a ≡ b)
