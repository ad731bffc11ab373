-- The machine that reads a text of declarations byte by byte: what private contracts and proofs rest on. Assumes nothing.
use Rattle.std.specs.Prelude.{◌≡◌, ℕ, suc, ◌<◌, ◌≤◌, Bool, true, false, cond, ◌==◌, List, [], ◌∷◌, ◌++◌, length, take, drop, ◌+◌, codes, Some, None, Option, IsSome}
use Rattle.grammar.specs.Bytes.{is_blank, begins_name, goes_in_name, is_char, IsName}
use Rattle.grammar.specs.Words.{Words, Sign as Inner, signs}
use Rattle.grammar.specs.Words.Words.{name, group, marked}
use Rattle.grammar.specs.Words.Join.{alt, next, both}
use Rattle.grammar.specs.Words.Mark.{optional, repeated, any}
use Rattle.grammar.specs.Words.Sign.{names, empties, opens, closes, suffix, separator}
use Rattle.grammar.specs.Lists.{Left, State, put, step, spelled as inner_spelled}
use Rattle.grammar.specs.Lists.State.{want, got}
use Rattle.grammar.specs.Notations.Notation.{dtd}
use Rattle.grammar.specs.Declarations.{Content, Declaration, Sign, inners, alternatives, content_signs, all_signs, sign_bytes, IsText}
use Rattle.grammar.specs.Declarations.Content.{none, whatever, text, children}
use Rattle.grammar.specs.Declarations.Sign.{element, declared, empty_word, any_word, pcdata_word, inner, ends}
use Rattle.grammar.specs.Faults.{Begins, LongestStart, EndsWell, SignStands, Repeats, Beyond, Cause, FaultAt, EndBefore, Gives, Faultless, AllFaultless}
use Rattle.grammar.specs.Faults.Cause.{kind, again, beyond}

-- where reading stands behind a sign: the declarations that have ended, the name of the one that is read, and how far it is
-- read. `kids` is in the outermost parenthesis, which is no group of its state; `starless` is behind that of #PCDATA.
pub data Spot : Type 0 where
  outside : List Declaration → Spot
  opened : List Declaration → Spot
  titled : List Declaration → List ℕ → Spot
  kids : List Declaration → List ℕ → State → Spot
  mixed : List Declaration → List ℕ → List (List ℕ) → Spot
  wanted : List Declaration → List ℕ → List (List ℕ) → Spot
  starless : List Declaration → List ℕ → List (List ℕ) → Spot
  grouped : List Declaration → List ℕ → Words → Spot
  full : List Declaration → List ℕ → Content → Spot

abbrev pub made : List ℕ → Content → Declaration
made n c = record { name = n; content = c }

abbrev pub ended : List Declaration → List ℕ → Content → Spot
ended ds n c = outside (ds ++ (made n c ∷ []))

abbrev pub kids_of : List Declaration → List ℕ → Option State → Option Spot
kids_of ds n None = None
kids_of ds n (Some σ) = Some (kids ds n σ)

abbrev pub closing_kids : List Declaration → List ℕ → State → Option Spot
closing_kids ds n (want o l) = None
closing_kids ds n (got [] l w) = Some (grouped ds n (put l w))
closing_kids ds n (got (k ∷ o) l w) = Some (kids ds n (got o k (group (put l w))))

abbrev pub pcdata_in : List Declaration → List ℕ → State → Option Spot
pcdata_in ds n (want [] None) = Some (mixed ds n [])
pcdata_in ds n (want [] (Some x)) = None
pcdata_in ds n (want (k ∷ o) l) = None
pcdata_in ds n (got o l w) = None

abbrev pub kids_go : List Declaration → List ℕ → State → Inner → Option Spot
kids_go ds n σ (names m) = kids_of ds n (step σ (names m))
kids_go ds n σ empties = kids_of ds n (step σ empties)
kids_go ds n σ opens = kids_of ds n (step σ opens)
kids_go ds n σ closes = closing_kids ds n σ
kids_go ds n σ (suffix m) = kids_of ds n (step σ (suffix m))
kids_go ds n σ (separator j) = kids_of ds n (step σ (separator j))

abbrev pub end_starless : List Declaration → List ℕ → List (List ℕ) → Option Spot
end_starless ds n [] = Some (ended ds n (text [] false))
end_starless ds n (m ∷ ms) = None

abbrev pub go : Spot → Sign → Option Spot
go (outside ds) element = Some (opened ds)
go (outside ds) s = None
go (opened ds) (declared n) = Some (titled ds n)
go (opened ds) s = None
go (titled ds n) empty_word = Some (full ds n none)
go (titled ds n) any_word = Some (full ds n whatever)
go (titled ds n) (inner opens) = Some (kids ds n (want [] None))
go (titled ds n) s = None
go (kids ds n σ) pcdata_word = pcdata_in ds n σ
go (kids ds n σ) (inner s) = kids_go ds n σ s
go (kids ds n σ) s = None
go (mixed ds n ns) (inner (separator alt)) = Some (wanted ds n ns)
go (mixed ds n ns) (inner closes) = Some (starless ds n ns)
go (mixed ds n ns) s = None
go (wanted ds n ns) (inner (names m)) = Some (mixed ds n (ns ++ (m ∷ [])))
go (wanted ds n ns) s = None
go (starless ds n ns) (inner (suffix any)) = Some (full ds n (text ns true))
go (starless ds n ns) ends = end_starless ds n ns
go (starless ds n ns) s = None
go (grouped ds n v) (inner (suffix m)) = Some (full ds n (children (marked (group v) m)))
go (grouped ds n v) ends = Some (ended ds n (children (group v)))
go (grouped ds n v) s = None
go (full ds n c) ends = Some (ended ds n c)
go (full ds n c) s = None

abbrev pub goes : List Sign → Option Spot → Option Spot
goes [] o = o
goes (s ∷ ss) None = goes ss None
goes (s ∷ ss) (Some σ) = goes ss (go σ s)

-- all signs that have been read
abbrev pub spelled : Spot → List Sign
spelled (outside ds) = all_signs ds
spelled (opened ds) = all_signs ds ++ (element ∷ [])
spelled (titled ds n) = all_signs ds ++ (element ∷ declared n ∷ [])
spelled (kids ds n σ) = all_signs ds ++ (element ∷ declared n ∷ inner opens ∷ inners (inner_spelled σ))
spelled (mixed ds n ns) = all_signs ds ++ (element ∷ declared n ∷ inner opens ∷ pcdata_word ∷ alternatives ns)
spelled (wanted ds n ns) = all_signs ds ++ (element ∷ declared n ∷ inner opens ∷ pcdata_word ∷ (alternatives ns ++ (inner (separator alt) ∷ [])))
spelled (starless ds n ns) = all_signs ds ++ (element ∷ declared n ∷ inner opens ∷ pcdata_word ∷ (alternatives ns ++ (inner closes ∷ [])))
spelled (grouped ds n v) = all_signs ds ++ (element ∷ declared n ∷ inners (signs (group v)))
spelled (full ds n c) = all_signs ds ++ (element ∷ declared n ∷ content_signs c)

-- white space has to stand here before what follows
abbrev pub spaced : Spot → Bool
spaced (opened ds) = true
spaced (titled ds n) = true
spaced σ = false

-- and here none may: names of mixed content want their '*'
abbrev pub tight : Spot → Bool
tight (starless ds n []) = false
tight (starless ds n (m ∷ ms)) = true
tight σ = false

-- which name is read, and which fixed word
pub data Named : Type 0 where
  title : List Declaration → Named
  kid : List Declaration → List ℕ → List Left → Left → Named
  mate : List Declaration → List ℕ → List (List ℕ) → Named

abbrev pub name_before : Named → Spot
name_before (title ds) = opened ds
name_before (kid ds n o l) = kids ds n (want o l)
name_before (mate ds n ns) = wanted ds n ns

abbrev pub name_sign : Named → List ℕ → Sign
name_sign (title ds) m = declared m
name_sign (kid ds n o l) m = inner (names m)
name_sign (mate ds n ns) m = inner (names m)

abbrev pub name_after : Named → List ℕ → Spot
name_after (title ds) m = titled ds m
name_after (kid ds n o l) m = kids ds n (got o l (name m))
name_after (mate ds n ns) m = mixed ds n (ns ++ (m ∷ []))

pub data Fixed : Type 0 where
  the_element : List Declaration → Fixed
  the_empty : List Declaration → List ℕ → Fixed
  the_any : List Declaration → List ℕ → Fixed
  the_pcdata : List Declaration → List ℕ → Fixed

abbrev pub word_before : Fixed → Spot
word_before (the_element ds) = outside ds
word_before (the_empty ds n) = titled ds n
word_before (the_any ds n) = titled ds n
word_before (the_pcdata ds n) = kids ds n (want [] None)

abbrev pub word_sign : Fixed → Sign
word_sign (the_element ds) = element
word_sign (the_empty ds n) = empty_word
word_sign (the_any ds n) = any_word
word_sign (the_pcdata ds n) = pcdata_word

abbrev pub word_after : Fixed → Spot
word_after (the_element ds) = opened ds
word_after (the_empty ds n) = full ds n none
word_after (the_any ds n) = full ds n whatever
word_after (the_pcdata ds n) = mixed ds n []

-- where reading stands: behind a sign, with white space behind it or without; in a name; in a fixed word, of which these bytes
-- are left; behind '<', '<!', '<!-'; in a comment, behind one '-' there, behind two
pub data Phase : Type 0 where
  at : Spot → Bool → Phase
  naming : Named → List ℕ → Phase
  word : Fixed → List ℕ → Phase
  angle : List Declaration → Phase
  bang : List Declaration → Phase
  bar : List Declaration → Phase
  inside : List Declaration → Phase
  dash : List Declaration → Phase
  dashes : List Declaration → Phase

abbrev pub sign_at : ℕ → Option Sign
sign_at b =
    cond (b == 40) (Some (inner opens))
    (cond (b == 41) (Some (inner closes))
    (cond (b == 63) (Some (inner (suffix optional)))
    (cond (b == 43) (Some (inner (suffix repeated)))
    (cond (b == 42) (Some (inner (suffix any)))
    (cond (b == 124) (Some (inner (separator alt)))
    (cond (b == 44) (Some (inner (separator next)))
    (cond (b == 62) (Some ends) None)))))))

abbrev pub is_suffix : Sign → Bool
is_suffix (inner (suffix m)) = true
is_suffix s = false

abbrev pub into : Option Spot → Option Phase
into None = None
into (Some σ) = Some (at σ false)

abbrev pub refused : Bool → Spot → Sign → Bool
refused g σ s = cond g (is_suffix s) (spaced σ)

abbrev pub signed : Bool → Spot → Option Sign → Option Phase
signed g σ None = None
signed g σ (Some s) = cond (refused g σ s) None (into (go σ s))

abbrev pub content_word : List Declaration → List ℕ → ℕ → Option Phase
content_word ds n b =
    cond (b == 69) (Some (word (the_empty ds n) (codes "MPTY"))) (cond (b == 65) (Some (word (the_any ds n) (codes "NY"))) None)

abbrev pub kid_begun : List Declaration → List ℕ → State → ℕ → Option Phase
kid_begun ds n (want o l) b = Some (naming (kid ds n o l) (b ∷ []))
kid_begun ds n (got o l w) b = None

-- a letter
abbrev pub lettered : Spot → Bool → ℕ → Option Phase
lettered (opened ds) g b = cond g (Some (naming (title ds) (b ∷ []))) None
lettered (titled ds n) g b = cond g (content_word ds n b) None
lettered (kids ds n σ) g b = kid_begun ds n σ b
lettered (wanted ds n ns) g b = Some (naming (mate ds n ns) (b ∷ []))
lettered σ g b = None

-- '<'
abbrev pub angled : Spot → Option Phase
angled (outside ds) = Some (angle ds)
angled σ = None

abbrev pub hashed_in : List Declaration → List ℕ → State → Option Phase
hashed_in ds n (want [] None) = Some (word (the_pcdata ds n) (codes "PCDATA"))
hashed_in ds n (want [] (Some x)) = None
hashed_in ds n (want (k ∷ o) l) = None
hashed_in ds n (got o l w) = None

-- '#'
abbrev pub hashed : Spot → Option Phase
hashed (kids ds n σ) = hashed_in ds n σ
hashed σ = None

abbrev pub feed_at : Spot → Bool → ℕ → Option Phase
feed_at σ g b =
    cond (is_blank b) (cond (tight σ) None (Some (at σ true)))
    (cond (begins_name b) (lettered σ g b)
    (cond (b == 60) (angled σ)
    (cond (b == 35) (hashed σ)
    (signed g σ (sign_at b)))))

abbrev pub word_on : Fixed → List ℕ → Phase
word_on f [] = at (word_after f) false
word_on f (c ∷ left) = word f (c ∷ left)

abbrev pub feed : Phase → ℕ → Option Phase
feed (at σ g) b = feed_at σ g b
feed (naming a n) b = cond (goes_in_name b) (Some (naming a (n ++ (b ∷ [])))) (feed_at (name_after a n) false b)
feed (word f []) b = None
feed (word f (c ∷ left)) b = cond (b == c) (Some (word_on f left)) None
feed (angle ds) b = cond (b == 33) (Some (bang ds)) None
feed (bang ds) b = cond (b == 69) (Some (word (the_element ds) (codes "LEMENT"))) (cond (b == 45) (Some (bar ds)) None)
feed (bar ds) b = cond (b == 45) (Some (inside ds)) None
feed (inside ds) b = cond (b == 45) (Some (dash ds)) (cond (is_char b) (Some (inside ds)) None)
feed (dash ds) b = cond (b == 45) (Some (dashes ds)) (cond (is_char b) (Some (inside ds)) None)
feed (dashes ds) b = cond (b == 62) (Some (at (outside ds) true)) None

abbrev pub feeds : List ℕ → Option Phase → Option Phase
feeds [] φ = φ
feeds (b ∷ bs) None = feeds bs None
feeds (b ∷ bs) (Some φ) = feeds bs (feed φ b)

abbrev pub first : Option Phase
first = Some (at (outside []) false)

-- names are names, and neither `empty` nor '&' stands
abbrev pub SignFits : Sign → Type 0
SignFits (declared n) = IsName n
SignFits (inner (names n)) = IsName n
SignFits (inner empties) = ⊥
SignFits (inner (separator both)) = ⊥
SignFits s = Unit {0}

-- the spot at which a phase stands, and whether white space is behind the sign
abbrev pub Stands : Phase → Spot → Bool → Type 0
Stands (at τ g) σ h = (τ ≡ σ) × (g ≡ h)
Stands (naming a n) σ h = (name_after a n ≡ σ) × (h ≡ false)
Stands φ σ h = ⊥

-- the bytes are read to a text's end, and these are its declarations
abbrev pub Accepts : List ℕ → List Declaration → Type 0
Accepts bytes ds = (g : Bool) × (feeds bytes first ≡ Some (at (outside ds) g))

-- what is spelled by declarations is accepted, and gives them
abbrev pub Complete : Type 0
Complete = (bytes : List ℕ) (ds : List Declaration) → IsText dtd bytes ds → Accepts bytes ds

-- what is accepted is spelled by the declarations read
abbrev pub Sound : Type 0
Sound = (bytes : List ℕ) (ds : List Declaration) → Accepts bytes ds → IsText dtd bytes ds

-- a text has its declarations in one way only
abbrev pub OneReading : Type 0
OneReading = (bytes : List ℕ) (ds es : List Declaration) → IsText dtd bytes ds → IsText dtd bytes es → ds ≡ es

-- each phase that is reached can be ended
abbrev pub Completion : Type 0
Completion =
    (start : List ℕ) (φ : Phase) → feeds start first ≡ Some φ
    → (more : List ℕ) × (ds : List Declaration) × Accepts (start ++ more) ds

-- a start is kept exactly while some text begins so
abbrev pub Viable : Type 0
Viable = (start : List ℕ) → (Begins dtd start → IsSome (feeds start first)) × (IsSome (feeds start first) → Begins dtd start)

-- where the machine stops: at the byte that it refuses, or at the end
abbrev pub Stops : List ℕ → ℕ → Type 0
Stops bytes n = (n ≤ length bytes) × IsSome (feeds (take n bytes) first) × (n < length bytes → feeds (take (suc n) bytes) first ≡ None)

-- that place is the length of the longest start
abbrev pub StopsThere : Type 0
StopsThere = (bytes : List ℕ) (n : ℕ) → (Stops bytes n → LongestStart dtd bytes n) × (LongestStart dtd bytes n → Stops bytes n)

-- the machine meets the sign s behind the signs ss at the place q: having read the bytes before it, it stands at a spot that
-- takes the sign there, and the sign's bytes come next, a name being whole
abbrev pub Met : List ℕ → ℕ → List Sign → Sign → Type 0
Met bytes q ss s =
    (φ : Phase) × (σ : Spot) × (h : Bool) × (rest : List ℕ)
    × (q ≤ length bytes) × (feeds (take q bytes) first ≡ Some φ) × Stands φ σ h × (spelled σ ≡ ss)
    × (refused h σ s ≡ false) × IsSome (go σ s) × SignFits s × (drop q bytes ≡ sign_bytes dtd s ++ rest) × EndsWell s rest

-- the signs that stand in a text are those that the machine meets
abbrev pub SignsMet : Type 0
SignsMet = (bytes : List ℕ) (q : ℕ) (ss : List Sign) (s : Sign) → (SignStands dtd bytes q ss s → Met bytes q ss s) × (Met bytes q ss s → SignStands dtd bytes q ss s)

-- at one place one sign stands
abbrev pub OneSign : Type 0
OneSign =
    (bytes : List ℕ) (q : ℕ) (ss rs : List Sign) (s r : Sign) → SignStands dtd bytes q ss s → SignStands dtd bytes q rs r → (ss ≡ rs) × (s ≡ r)

-- the declarations that a phase has read
abbrev pub spot_read : Spot → List Declaration
spot_read (outside ds) = ds
spot_read (opened ds) = ds
spot_read (titled ds n) = ds
spot_read (kids ds n σ) = ds
spot_read (mixed ds n ns) = ds
spot_read (wanted ds n ns) = ds
spot_read (starless ds n ns) = ds
spot_read (grouped ds n v) = ds
spot_read (full ds n c) = ds

abbrev pub read_by : Phase → List Declaration
read_by (at σ g) = spot_read σ
read_by (naming a n) = spot_read (name_before a)
read_by (word f left) = spot_read (word_before f)
read_by (angle ds) = ds
read_by (bang ds) = ds
read_by (bar ds) = ds
read_by (inside ds) = ds
read_by (dash ds) = ds
read_by (dashes ds) = ds

-- they are those that end before the place
abbrev pub EndsMet : Type 0
EndsMet = (bytes : List ℕ) (q : ℕ) (φ : Phase) → q ≤ length bytes → feeds (take q bytes) first ≡ Some φ → EndBefore dtd bytes q (read_by φ)

-- a sign that stands ends no later than the longest start, so that no byte of it, nor what stands before it, is refused
abbrev pub SignsBefore : Type 0
SignsBefore =
    (bytes : List ℕ) (q n : ℕ) (ss : List Sign) (s : Sign) → SignStands dtd bytes q ss s → LongestStart dtd bytes n → q + length (sign_bytes dtd s) ≤ n

-- the faults, from the machine
abbrev pub FaultMet : List (List ℕ) → List ℕ → Cause → ℕ → Type 0
FaultMet ks bytes kind q = ((ds : List Declaration) → Accepts bytes ds → ⊥) × Stops bytes q
FaultMet ks bytes again q = (ss : List Sign) × (s : Sign) × Met bytes q ss s × Repeats ss s
FaultMet ks bytes beyond q = (ss : List Sign) × (s : Sign) × Met bytes q ss s × Beyond dtd ks ss s

abbrev pub FaultsMet : Type 0
FaultsMet =
    (ks : List (List ℕ)) (bytes : List ℕ) (c : Cause) (q : ℕ) → (FaultAt dtd ks bytes c q → FaultMet ks bytes c q) × (FaultMet ks bytes c q → FaultAt dtd ks bytes c q)

-- signs stand in order: a later one is behind the bytes of an earlier one, and behind its sign
abbrev pub InOrder : Type 0
InOrder =
    (bytes : List ℕ) (q r : ℕ) (ss rs : List Sign) (s t : Sign) → SignStands dtd bytes q ss s → SignStands dtd bytes r rs t → q < r
    → (q + length (sign_bytes dtd s) ≤ r) × ((more : List Sign) × (rs ≡ (ss ++ (s ∷ [])) ++ more))

-- the signs that a phase has read, and the name at its end
abbrev pub signs_by : Phase → List Sign
signs_by (at σ g) = spelled σ
signs_by (naming a n) = spelled (name_after a n)
signs_by (word f left) = spelled (word_before f)
signs_by (angle ds) = all_signs ds
signs_by (bang ds) = all_signs ds
signs_by (bar ds) = all_signs ds
signs_by (inside ds) = all_signs ds
signs_by (dash ds) = all_signs ds
signs_by (dashes ds) = all_signs ds

-- a sign that stands before the place n is among those read there
abbrev pub SignsRead : Type 0
SignsRead =
    (bytes : List ℕ) (q n : ℕ) (ss : List Sign) (s : Sign) (φ : Phase) → SignStands dtd bytes q ss s → q + length (sign_bytes dtd s) ≤ n → n ≤ length bytes
    → feeds (take n bytes) first ≡ Some φ → (more : List Sign) × (signs_by φ ≡ (ss ++ (s ∷ [])) ++ more)

-- which grows with each sign
abbrev pub FaultlessGrows : Type 0
FaultlessGrows =
    (ks : List (List ℕ)) → AllFaultless dtd ks [] × ((us : List Sign) (s : Sign) → AllFaultless dtd ks us → Faultless dtd ks us s → AllFaultless dtd ks (us ++ (s ∷ [])))

-- what a text gives, from the machine: all; a byte that is refused, or the text's end; a sign
abbrev pub GivesAll : Type 0
GivesAll = (ks : List (List ℕ)) (bytes : List ℕ) (ds : List Declaration) → Accepts bytes ds → AllFaultless dtd ks (all_signs ds) → Gives dtd ks bytes ds None

abbrev pub GivesKind : Type 0
GivesKind =
    (ks : List (List ℕ)) (bytes : List ℕ) (n : ℕ) (φ : Phase) → ((ds : List Declaration) → Accepts bytes ds → ⊥) → Stops bytes n
    → feeds (take n bytes) first ≡ Some φ → AllFaultless dtd ks (signs_by φ) → Gives dtd ks bytes (read_by φ) (Some (kind, n))

abbrev pub GivesSign : Type 0
GivesSign =
    (ks : List (List ℕ)) (bytes : List ℕ) (q : ℕ) (ss : List Sign) (s : Sign) (φ : Phase) → Met bytes q ss s → feeds (take q bytes) first ≡ Some φ → AllFaultless dtd ks ss
    → (Repeats ss s → Gives dtd ks bytes (read_by φ) (Some (again, q)))
    × ((Repeats ss s → ⊥) → Beyond dtd ks ss s → Gives dtd ks bytes (read_by φ) (Some (beyond, q)))

-- the place where the machine stops, and whether it is at a text's end, as they are computed
abbrev pub stop_from : List ℕ → Phase → ℕ → ℕ
stop_from [] φ n = n
stop_from (b ∷ bs) φ n = elim (feed φ b) [ None ↦ n | Some ψ ↦ stop_from bs ψ (n + 1) ]

abbrev pub stop_of : List ℕ → ℕ
stop_of bytes = stop_from bytes (at (outside []) false) 0

abbrev pub is_outside : Spot → Bool
is_outside (outside ds) = true
is_outside σ = false

abbrev pub is_end : Phase → Bool
is_end (at σ g) = is_outside σ
is_end φ = false

abbrev pub is_accepted : List ℕ → Bool
is_accepted bytes = elim (feeds bytes first) [ None ↦ false | Some φ ↦ is_end φ ]

abbrev pub Computed : Type 0
Computed =
    (bytes : List ℕ)
    → LongestStart dtd bytes (stop_of bytes)
    × (is_accepted bytes ≡ true → (ds : List Declaration) × IsText dtd bytes ds)
    × ((ds : List Declaration) → IsText dtd bytes ds → is_accepted bytes ≡ true)

-- each text gives something
abbrev pub GivesSome : Type 0
GivesSome = (ks : List (List ℕ)) (bytes : List ℕ) → (ds : List Declaration) × (a : Option (Cause × ℕ)) × Gives dtd ks bytes ds a

-- and where no sign of a front of it is at fault, it gives the declarations of that front first
abbrev pub GivesFront : Type 0
GivesFront =
    (ks : List (List ℕ)) (bytes : List ℕ) (m : ℕ) (es ds : List Declaration) (a : Option (Cause × ℕ)) → m ≤ length bytes → IsText dtd (take m bytes) es
    → AllFaultless dtd ks (all_signs es) → Gives dtd ks bytes ds a → (more : List Declaration) × (ds ≡ es ++ more)
