-- What each step of reading a declaration leads to, as private contracts and proofs say it: no public promise rests on it. Assumes nothing.
use Rattle.std.specs.Prelude.{◌≡◌, ℕ, ◌<◌, ◌≤◌, Bool, true, false, ◌==◌, List, [], ◌∷◌, ◌++◌, length, map, codes, Some, None, Ok, Err, Option, Result}
use Rattle.parts.specs.declared.part.Part.{Part}
use Rattle.models.specs.Written.{sheet}
use Rattle.names.specs.Numbering.{symbol_in, known_after}
use Rattle.grammar.specs.Bytes.{is_blank, begins_name}
use Rattle.grammar.specs.Notations.Notation.{dtd}
use Rattle.grammar.specs.Words.{Words}
use Rattle.grammar.specs.Words.Words.{name, group}
use Rattle.grammar.specs.Words.{Join as Spoken}
use Rattle.grammar.specs.Words.Join.{alt, next, both}
use Rattle.grammar.specs.Lists.{Left, State}
use Rattle.grammar.specs.Lists.State.{want, got}
use Rattle.grammar.specs.Declarations.{Content, Declaration, words, alternated}
use Rattle.grammar.specs.Declarations.Content.{text, children}
use Rattle.grammar.specs.Meaning.{tree_of}
use Rattle.grammar.specs.Declarations.Sign.{declared}
use Rattle.grammar.specs.Faults.{Gives, SignStands}
use Rattle.grammar.specs.Machine.{Spot, spelled, Named, name_before, name_after, feed_at, spot_read, made as declaration_of}
use Rattle.grammar.specs.Machine.Spot.{outside, opened, titled, kids, starless, grouped, full}
use Rattle.grammar.specs.Machine.Named.{title, kid, mate}
use Rattle.parts.specs.Stacks.{Kept, room}
use Rattle.text.specs.Contents.{Made, made_of, MakesMore, join_part, mark_parts}
use Rattle.text.specs.Cursors.{rest_of, Stayed, WordRead, MarkRead}
use Rattle.text.specs.Fronts.{Past, is_mark}
use Rattle.text.specs.Progress.{ElementsAre, SymbolIs, CursorAt, Fails}
use Rattle.text.specs.declared.cursor.Cursor.{Cursor}
use Rattle.text.specs.declared.elements.Elements.{Elements}
use Rattle.text.specs.declared.element.Element.{Element}
use Rattle.text.specs.declared.fault.PlacedCause.{PlacedCause}
use Rattle.text.specs.declared.fault.TextCause.TheVariants.{NotDeclarations}
use Rattle.text.specs.declared.mark.Mark.{Mark}
use Rattle.text.specs.declared.join.Join.{Join}
use Rattle.text.specs.declared.join.Join.TheVariants as join

-- the cursor stands at the spot, and the elements are those of its signs
pub record ReadTo (ks : List (List ℕ)) (bytes : List ℕ) (σ : Spot) (h : Bool) (c : Cursor) (e : Elements) : Type 0 where
  pub cursor : CursorAt ks bytes σ h c
  pub elements : ElementsAre dtd ks (spelled σ) e

-- the cursor has not gone back in its text
abbrev pub Onward : Cursor → Cursor → Type 0
Onward old new = (new.text.now ≡ old.text.now) × (old.at ≤ new.at)

-- and it has gone on where the answer is true
abbrev pub Further : Result Bool PlacedCause → Cursor → Cursor → Type 0
Further (Ok true) old new = (new.text.now ≡ old.text.now) × (old.at < new.at)
Further (Ok false) old new = Onward old new
Further (Err f) old new = Unit {0}

-- a byte has been read, or nothing
abbrev pub OneOver : Result Bool PlacedCause → Cursor → Cursor → Type 0
OneOver (Ok true) old new = (new.text.now ≡ old.text.now) × (old.at < new.at)
OneOver (Ok false) old new = Stayed old new
OneOver (Err f) old new = Unit {0}

-- a word has been read; or the text differs from it at a place
abbrev pub WordTaken : Cursor → List ℕ → Result (Unit {0}) PlacedCause → Cursor → Type 0
WordTaken old word (Ok u) new = WordRead old word (Ok u) new
WordTaken old word (Err f) new = (f.cause ≡ NotDeclarations) × WordRead old word (Err f.place) new

-- behind a sign no suffix follows, since it was looked for
abbrev pub SuffixPast : Bool → List ℕ → Type 0
SuffixPast true rest = Unit {0}
SuffixPast false rest = Past is_mark rest

-- what follows is neither white space nor a comment
abbrev pub GapPast : List ℕ → Type 0
GapPast bytes = Past is_blank bytes × ((rest : List ℕ) → bytes ≡ codes "<!-" ++ rest → ⊥)

-- the gap before a declaration or the end has been read
abbrev pub GapRead : List (List ℕ) → List ℕ → List Declaration → Result (Unit {0}) PlacedCause → Cursor → Type 0
GapRead ks bytes ds (Ok u) c = ((h : Bool) × CursorAt ks bytes (outside ds) h c) × GapPast (rest_of c)
GapRead ks bytes ds (Err f) c = Fails dtd ks bytes ds f

-- a declaration begins, or the text ends
abbrev pub Begun : List (List ℕ) → List ℕ → List Declaration → Result Bool PlacedCause → Cursor → Elements → Type 0
Begun ks bytes ds (Ok true) c e = ReadTo ks bytes (opened ds) false c e
Begun ks bytes ds (Ok false) c e = Gives dtd ks bytes ds None × ((h : Bool) × ReadTo ks bytes (outside ds) h c e)
Begun ks bytes ds (Err f) c e = Fails dtd ks bytes ds f

-- it has its name
abbrev pub Titled : List (List ℕ) → List ℕ → List Declaration → Result Element PlacedCause → Cursor → Elements → Type 0
Titled ks bytes ds (Ok el) c e =
    ReadTo ks bytes (titled ds el.name.now) false c e × SymbolIs el.name.now (Ok el.symbol) e
    × SignStands dtd bytes el.place (spelled (opened ds)) (declared el.name.now)
Titled ks bytes ds (Err f) c e = Fails dtd ks bytes ds f

-- a name within content
abbrev pub IsChildName : Named → Type 0
IsChildName (title ds) = ⊥
IsChildName (kid ds n o l) = Unit {0}
IsChildName (mate ds n ns) = Unit {0}

-- where no name begins, the text stops
abbrev pub WantsName : Spot → Bool → List ℕ → Type 0
WantsName σ h [] = Unit {0}
WantsName σ h (b ∷ rest) = begins_name b ≡ false → feed_at σ h b ≡ None

abbrev pub ChildRead : List (List ℕ) → List ℕ → Named → Result ℕ PlacedCause → Cursor → Elements → Type 0
ChildRead ks bytes a (Ok s) c e = (m : List ℕ) × ReadTo ks bytes (name_after a m) false c e × SymbolIs m (Ok s) e
ChildRead ks bytes a (Err f) c e = Fails dtd ks bytes (spot_read (name_before a)) f

-- the parts that were made are these, whatever names come to be known behind the known ones
abbrev pub PartsFor : (List (List ℕ) → List Part) → Elements → Made → Type 0
PartsFor parts e m = (more : List (List ℕ)) → m ≡ made_of (parts (known_after e.names more))

-- the parts of what was read of a group: of the members before, without what joins the next one to them
abbrev pub left_parts : List (List ℕ) → Left → List Part
left_parts ks None = []
left_parts ks (Some (a, j)) = sheet (tree_of ks a)

abbrev pub outer_parts : List (List ℕ) → List Left → List Part
outer_parts ks [] = []
outer_parts ks (l ∷ o) = outer_parts ks o ++ left_parts ks l

abbrev pub state_parts : State → List (List ℕ) → List Part
state_parts (want o l) ks = outer_parts ks o ++ left_parts ks l
state_parts (got o l w) ks = outer_parts ks o ++ (left_parts ks l ++ sheet (tree_of ks w))

-- of mixed content: the names' choice
abbrev pub mixed_parts : List (List ℕ) → List (List ℕ) → List Part
mixed_parts [] ks = []
mixed_parts (n ∷ ns) ks = sheet (tree_of ks (alternated (name n) ns))

-- no names
abbrev pub is_alone : List (List ℕ) → Bool
is_alone [] = true
is_alone (n ∷ ns) = false

abbrev pub content_parts : Content → List (List ℕ) → List Part
content_parts k ks = sheet (tree_of ks (words k))

-- the spot at which the content k has ended, where its suffix was looked for: behind #PCDATA it is '*', 42, alone
abbrev pub Closes : List Declaration → List ℕ → Content → Spot → List ℕ → Type 0
Closes ds n k (starless es m []) rest = (es ≡ ds) × (m ≡ n) × (k ≡ text [] false) × Past (λ b. b == 42) rest
Closes ds n k (grouped es m v) rest = (es ≡ ds) × (m ≡ n) × (k ≡ children (group v)) × Past is_mark rest
Closes ds n k (full es m c) rest = (es ≡ ds) × (m ≡ n) × (k ≡ c)
Closes ds n k σ rest = ⊥

-- the content has been read, and its parts made
abbrev pub Ended : List (List ℕ) → List ℕ → List Declaration → List ℕ → Result (Unit {0}) PlacedCause → Cursor → Elements → Made → Type 0
Ended ks bytes ds n (Ok u) c e m =
    (k : Content) × (σ : Spot) × ReadTo ks bytes σ false c e × Closes ds n k σ (rest_of c) × PartsFor (content_parts k) e m
Ended ks bytes ds n (Err f) c e m = Fails dtd ks bytes ds f

-- what joins the members of a group
abbrev pub join_of : Spoken → Join
join_of alt = join.Choice
join_of next = join.Sequence
join_of both = join.Interleave

abbrev pub left_join : Left → Option Join
left_join None = None
left_join (Some (a, j)) = Some (join_of j)

-- the open groups, the innermost first, for all of which there is room
abbrev pub GroupsAre : List Left → Kept (Option Join) → Type 0
GroupsAre ls s = (s.waiting ≡ map left_join ls) × (room s ≡ 16) × (length ls ≤ 16)

-- a suffix has been read and its parts made, or none stands there
abbrev pub MarkMade : Cursor → Made → Cursor → Made → Type 0
MarkMade old before new made = (m : Option Mark) × MarkRead old m new × MarkParts m before made
  where
    MarkParts : Option Mark → Made → Made → Type 0
    MarkParts None before made = made ≡ before
    MarkParts (Some m) before made = MakesMore before (mark_parts m) made

-- the part that joins a member to those before it is made, where there are some
abbrev pub JoinMade : Made → Option Join → Made → Type 0
JoinMade old None new = new ≡ old
JoinMade old (Some j) new = MakesMore old (join_part j ∷ []) new

-- 124 '|', 44 ','
abbrev pub SeparatorIs : List ℕ → Option Join → Type 0
SeparatorIs bytes None = Past (λ b. b == 124) bytes × Past (λ b. b == 44) bytes
SeparatorIs bytes (Some join.Choice) = (rest : List ℕ) × (bytes ≡ 124 ∷ rest)
SeparatorIs bytes (Some join.Sequence) = (rest : List ℕ) × (bytes ≡ 44 ∷ rest)
SeparatorIs bytes (Some join.Interleave) = ⊥

-- the members of a list are joined alike
abbrev pub join_rank : Join → ℕ
join_rank join.Choice = 2
join_rank join.Sequence = 3
join_rank join.Interleave = 4

abbrev pub may_join : Option Join → Join → Bool
may_join None j = true
may_join (Some i) j = join_rank i == join_rank j

-- a `(` has been read, or none stands there
abbrev pub GroupOpened : List (List ℕ) → List ℕ → List Declaration → List ℕ → List Left → Left → Bool → Result Bool PlacedCause → Cursor → Elements → Kept (Option Join) → Type 0
GroupOpened ks bytes ds n o l h (Ok true) c e s = ReadTo ks bytes (kids ds n (want (l ∷ o) None)) false c e × GroupsAre (None ∷ l ∷ o) s
GroupOpened ks bytes ds n o l h (Ok false) c e s =
    ReadTo ks bytes (kids ds n (want o l)) h c e × GroupsAre (l ∷ o) s × Past (λ b. b == 40) (rest_of c)
GroupOpened ks bytes ds n o l h (Err f) c e s = Fails dtd ks bytes ds f

-- another member is wanted, or the outermost group has ended
abbrev pub GoneOn : List (List ℕ) → List ℕ → List Declaration → List ℕ → Result Bool PlacedCause → Cursor → Elements → Made → Kept (Option Join) → Type 0
GoneOn ks bytes ds n (Ok true) c e m s =
    (o : List Left) × (a : Words) × (j : Spoken) × ReadTo ks bytes (kids ds n (want o (Some (a, j)))) false c e
    × GroupsAre (Some (a, j) ∷ o) s × PartsFor (state_parts (want o (Some (a, j)))) e m
GoneOn ks bytes ds n (Ok false) c e m s =
    (k : Content) × (σ : Spot) × ReadTo ks bytes σ false c e × Closes ds n k σ (rest_of c) × PartsFor (content_parts k) e m
GoneOn ks bytes ds n (Err f) c e m s = Fails dtd ks bytes ds f

-- 35 '#' is not next where it may stand, which is first of all
abbrev pub HashPast : List Left → Left → List ℕ → Type 0
HashPast [] None rest = Past (λ b. b == 35) rest
HashPast [] (Some l) rest = Unit {0}
HashPast (k ∷ o) l rest = Unit {0}

-- a member is wanted
pub record MemberWanted (ks : List (List ℕ)) (bytes : List ℕ) (ds : List Declaration) (n : List ℕ) (c : Cursor) (e : Elements) (m : Made) (s : Kept (Option Join)) : Type 0 where
  pub outer : List Left
  pub left : Left
  pub spaced : Bool
  pub read : ReadTo ks bytes (kids ds n (want outer left)) spaced c e
  pub blanks : Past is_blank (rest_of c)
  pub hash : HashPast outer left (rest_of c)
  pub groups : GroupsAre (left ∷ outer) s
  pub parts : PartsFor (state_parts (want outer left)) e m

-- a group has begun, or a member has been read and another is wanted, or the outermost group has ended
abbrev pub MemberRead : List (List ℕ) → List ℕ → List Declaration → List ℕ → Result Bool PlacedCause → Cursor → Elements → Made → Kept (Option Join) → Type 0
MemberRead ks bytes ds n (Ok true) c e m s =
    (o : List Left) × (l : Left) × ReadTo ks bytes (kids ds n (want o l)) false c e × ((rest : List ℕ) → HashPast o l rest)
    × GroupsAre (l ∷ o) s × PartsFor (state_parts (want o l)) e m
MemberRead ks bytes ds n (Ok false) c e m s = GoneOn ks bytes ds n (Ok false) c e m s
MemberRead ks bytes ds n (Err f) c e m s = Fails dtd ks bytes ds f

-- the declaration has ended
abbrev pub DeclarationEnded : List (List ℕ) → List ℕ → List Declaration → Declaration → Result (Unit {0}) PlacedCause → Cursor → Elements → Made → Type 0
DeclarationEnded ks bytes ds d (Ok u) c e m =
    ReadTo ks bytes (outside (ds ++ (d ∷ []))) false c e × ((ns : List (List ℕ)) → length (content_parts d.content ns) ≤ 256)
DeclarationEnded ks bytes ds d (Err f) c e m = Fails dtd ks bytes ds f

-- the next declaration has been read, or the text has ended
abbrev pub DeclarationRead : List (List ℕ) → List ℕ → List Declaration → Result (Option Element) PlacedCause → Cursor → Elements → Made → Type 0
DeclarationRead ks bytes ds (Ok None) c e m = Gives dtd ks bytes ds None × ((h : Bool) × ReadTo ks bytes (outside ds) h c e)
DeclarationRead ks bytes ds (Ok (Some el)) c e m =
    (k : Content) × ReadTo ks bytes (outside (ds ++ (declaration_of el.name.now k ∷ []))) false c e
    × (el.symbol ≡ symbol_in e.names el.name.now) × SignStands dtd bytes el.place (spelled (opened ds)) (declared el.name.now) × (m ≡ made_of (content_parts k e.names)) × (length (content_parts k e.names) ≤ 256)
DeclarationRead ks bytes ds (Err f) c e m = Fails dtd ks bytes ds f
