-- Texts of declarations, in a notation. `dtd` is element declarations of XML 1.0, without parameter entities and colons. Assumes nothing.
use Rattle.std.specs.Prelude.{◌≡◌, ℕ, ◌⊎◌, Bool, true, cond, List, [], ◌∷◌, ◌++◌, codes}
use Rattle.grammar.specs.Bytes.{IsName, IsSpace, IsSomeSpace, IsGap}
use Rattle.grammar.specs.Words.{Words, Sign as Inner, IsList, signs}
use Rattle.grammar.specs.Words.Words.{name, nothing, group, marked, joined}
use Rattle.grammar.specs.Words.Join.{alt, next, both}
use Rattle.grammar.specs.Words.Mark.{optional, repeated, any}
use Rattle.grammar.specs.Words.Sign.{names, empties, opens, closes, suffix, separator}
use Rattle.grammar.specs.Meaning.{names_in}
use Rattle.grammar.specs.Notations.{Notation}
use Rattle.grammar.specs.Notations.Notation.{dtd}

-- what stands as content: EMPTY; ANY; #PCDATA with names, and with * or not; a group of children
pub data Content : Type 0 where
  none : Content
  whatever : Content
  text : List (List ℕ) → Bool → Content
  children : Words → Content

pub record Declaration : Type 0 where
  pub name : List ℕ
  pub content : Content

-- lists of names, joined by '|' and ',' alone
abbrev pub IsChildren : Words → Type 0
IsChildren (name n) = IsName n
IsChildren nothing = ⊥
IsChildren (group w) = IsChildren w
IsChildren (marked w m) = IsChildren w
IsChildren (joined l alt r) = IsChildren l × IsChildren r
IsChildren (joined l next r) = IsChildren l × IsChildren r
IsChildren (joined l both r) = ⊥

-- a group, with a suffix or without
abbrev pub IsGroup : Words → Type 0
IsGroup (name n) = ⊥
IsGroup nothing = ⊥
IsGroup (group w) = Unit {0}
IsGroup (marked (name n) m) = ⊥
IsGroup (marked nothing m) = ⊥
IsGroup (marked (group w) m) = Unit {0}
IsGroup (marked (marked w k) m) = ⊥
IsGroup (marked (joined l j r) m) = ⊥
IsGroup (joined l j r) = ⊥

abbrev pub AreNames : List (List ℕ) → Type 0
AreNames [] = Unit {0}
AreNames (n ∷ ns) = IsName n × AreNames ns

-- #PCDATA with names is always starred
abbrev pub IsContent : Content → Type 0
IsContent none = Unit {0}
IsContent whatever = Unit {0}
IsContent (text ns starred) = AreNames ns × ((ns ≡ []) ⊎ (starred ≡ true))
IsContent (children w) = IsList w × IsChildren w × IsGroup w

abbrev pub IsDeclaration : Declaration → Type 0
IsDeclaration d = IsName d.name × IsContent d.content

-- what is read of a text, in order
pub data Sign : Type 0 where
  element : Sign
  declared : List ℕ → Sign
  empty_word : Sign
  any_word : Sign
  pcdata_word : Sign
  inner : Inner → Sign
  ends : Sign

abbrev pub inners : List Inner → List Sign
inners [] = []
inners (s ∷ ss) = inner s ∷ inners ss

abbrev pub alternatives : List (List ℕ) → List Sign
alternatives [] = []
alternatives (n ∷ ns) = inner (separator alt) ∷ inner (names n) ∷ alternatives ns

abbrev pub content_signs : Content → List Sign
content_signs none = empty_word ∷ []
content_signs whatever = any_word ∷ []
content_signs (text ns starred) =
    inner opens ∷ pcdata_word ∷ (alternatives ns ++ (inner closes ∷ cond starred (inner (suffix any) ∷ []) []))
content_signs (children w) = inners (signs w)

abbrev pub declaration_signs : Declaration → List Sign
declaration_signs d = element ∷ declared d.name ∷ (content_signs d.content ++ (ends ∷ []))

abbrev pub all_signs : List Declaration → List Sign
all_signs [] = []
all_signs (d ∷ ds) = declaration_signs d ++ all_signs ds

-- the bytes of a sign
abbrev pub inner_bytes : Notation → Inner → List ℕ
inner_bytes dtd (names n) = n
inner_bytes dtd empties = []
inner_bytes dtd opens = codes "("
inner_bytes dtd closes = codes ")"
inner_bytes dtd (suffix optional) = codes "?"
inner_bytes dtd (suffix repeated) = codes "+"
inner_bytes dtd (suffix any) = codes "*"
inner_bytes dtd (separator alt) = codes "|"
inner_bytes dtd (separator next) = codes ","
inner_bytes dtd (separator both) = codes "&"

abbrev pub sign_bytes : Notation → Sign → List ℕ
sign_bytes dtd element = codes "<!ELEMENT"
sign_bytes dtd (declared n) = n
sign_bytes dtd empty_word = codes "EMPTY"
sign_bytes dtd any_word = codes "ANY"
sign_bytes dtd pcdata_word = codes "#PCDATA"
sign_bytes dtd (inner s) = inner_bytes dtd s
sign_bytes dtd ends = codes ">"

-- a sign with what stands before it
pub record Token : Type 0 where
  pub gap : List ℕ
  pub sign : Sign

-- what may stand before a sign that follows another: white space and comments between declarations, some white space
-- after <!ELEMENT and after the name, none before a suffix, and else white space or none
abbrev pub GapInside : Notation → Sign → List ℕ → Type 0
GapInside dtd element g = IsGap g
GapInside dtd (declared n) g = IsSpace g
GapInside dtd empty_word g = IsSpace g
GapInside dtd any_word g = IsSpace g
GapInside dtd pcdata_word g = IsSpace g
GapInside dtd (inner (names n)) g = IsSpace g
GapInside dtd (inner empties) g = IsSpace g
GapInside dtd (inner opens) g = IsSpace g
GapInside dtd (inner closes) g = IsSpace g
GapInside dtd (inner (suffix m)) g = g ≡ []
GapInside dtd (inner (separator j)) g = IsSpace g
GapInside dtd ends g = IsSpace g

abbrev pub GapBefore : Notation → Sign → Sign → List ℕ → Type 0
GapBefore dtd element s g = IsSomeSpace g
GapBefore dtd (declared n) s g = IsSomeSpace g
GapBefore dtd empty_word s g = GapInside dtd s g
GapBefore dtd any_word s g = GapInside dtd s g
GapBefore dtd pcdata_word s g = GapInside dtd s g
GapBefore dtd (inner t) s g = GapInside dtd s g
GapBefore dtd ends s g = GapInside dtd s g

-- the gaps of tokens that follow a sign
abbrev pub GapsFit : Notation → Sign → List Token → Type 0
GapsFit ν before [] = Unit {0}
GapsFit ν before (t ∷ ts) = GapBefore ν before t.sign t.gap × GapsFit ν t.sign ts

abbrev pub signs_of : List Token → List Sign
signs_of [] = []
signs_of (t ∷ ts) = t.sign ∷ signs_of ts

abbrev pub written : Notation → List Token → List ℕ
written ν [] = []
written ν (t ∷ ts) = t.gap ++ (sign_bytes ν t.sign ++ written ν ts)

abbrev pub AreDeclarations : List Declaration → Type 0
AreDeclarations [] = Unit {0}
AreDeclarations (d ∷ ds) = IsDeclaration d × AreDeclarations ds

-- the tokens are those of the declarations ds
abbrev pub TokensOf : Notation → List Token → List Declaration → Type 0
TokensOf ν ts ds = (signs_of ts ≡ all_signs ds) × GapsFit ν ends ts × AreDeclarations ds

-- a text of declarations: their tokens, and at the end white space and comments
abbrev pub IsText : Notation → List ℕ → List Declaration → Type 0
IsText ν bytes ds = (ts : List Token) × (last : List ℕ) × TokensOf ν ts ds × IsGap last × (bytes ≡ written ν ts ++ last)

-- the words that the content stands for: EMPTY and #PCDATA alone are nothing, #PCDATA with names is their repeated choice
abbrev pub alternated : Words → List (List ℕ) → Words
alternated w [] = w
alternated w (n ∷ ns) = alternated (joined w alt (name n)) ns

abbrev pub mixed_words : List (List ℕ) → Words
mixed_words [] = nothing
mixed_words (n ∷ ns) = marked (group (alternated (name n) ns)) any

abbrev pub words : Content → Words
words none = nothing
words whatever = nothing
words (text ns starred) = mixed_words ns
words (children w) = w

-- all names of a declaration, in order
abbrev pub all_names : Declaration → List (List ℕ)
all_names d = d.name ∷ names_in (words d.content)
