-- What is read of the groups that end behind a member, and of the outermost one. Assumes nothing.
use Rattle.std.proofs.Common.{◌≡◌, ℕ, ◌<◌, ◌≤◌, ◌⊎◌, inl, inr, Bool, true, false, cond, List, [], ◌∷◌, length, get_or, take, drop, Some, None, Option, Ok, sym, refl, ap, ◌∙◌, subst, arith}
use Rattle.std.proofs.lemmas.Bool.{false≢true}
use Rattle.parts.specs.Stacks.{Kept, Popped}
use Rattle.grammar.specs.Bytes.{is_blank}
use Rattle.grammar.specs.Notations.Notation.{dtd}
use Rattle.grammar.specs.Words.{Words, is_plain, is_member}
use Rattle.grammar.specs.Words.Words.{name, nothing, group, marked, joined}
use Rattle.grammar.specs.Words.Sign.{closes, suffix}
use Rattle.grammar.specs.Lists.{Left, put}
use Rattle.grammar.specs.Lists.State.{got}
use Rattle.grammar.specs.Declarations.{Declaration, sign_bytes}
use Rattle.grammar.specs.Declarations.Content.{children}
use Rattle.grammar.specs.Declarations.Sign.{inner}
use Rattle.grammar.specs.Machine.{kids_of, refused}
use Rattle.grammar.specs.Machine.Spot.{kids, grouped, full}
use Rattle.grammar.specs.Meaning.{tree_of}
use Rattle.models.specs.Written.{sheet}
use Rattle.text.specs.Contents.{Made, mark_parts}
use Rattle.text.specs.Cursors.{rest_of, Moved, BlanksRead}
use Rattle.text.specs.Declaring.{ReadTo, GroupsAre, GoneOn, SuffixPast, MarkMade, JoinMade, PartsFor, Onward, left_join, state_parts, content_parts}
use Rattle.text.specs.Fronts.{Past, is_mark, mark_bytes}
use Rattle.text.specs.declared.cursor.Cursor.{Cursor}
use Rattle.text.specs.declared.elements.Elements.{Elements}
use Rattle.text.specs.declared.join.Join.{Join}
use Rattle.text.specs.declared.mark.Mark.{Mark}
use Rattle.text.specs.declared.mark.Mark.TheVariants as mark
use Rattle.text.proofs.Walking.{stays_at, over_blanks}
use Rattle.text.proofs.Quiet.{over_quiet}
use Rattle.text.proofs.Fronted.{one_read}
use Rattle.text.proofs.Made.{suffix_of, more_put, group_closed, marked_parts, member_marked, parts_more, parts_joined}

-- a member has been read, or the outermost group
abbrev pub AtMember : List (List ℕ) → List ℕ → List Declaration → List ℕ → Cursor → Elements → Made → Kept (Option Join) → Type 0
AtMember ks bytes ds n c e m s =
    (o : List Left) × (l : Left) × (w : Words) × ReadTo ks bytes (kids ds n (got o l w)) false c e × (is_plain w ≡ true) × GroupsAre (l ∷ o) s
    × PartsFor (state_parts (got o l w)) e m

abbrev pub group_parts : Words → List (List ℕ) → List Rattle.parts.specs.declared.part.Part.Part
group_parts v ks = sheet (tree_of ks v)

abbrev pub AtGroup : List (List ℕ) → List ℕ → List Declaration → List ℕ → Cursor → Elements → Made → Kept (Option Join) → Type 0
AtGroup ks bytes ds n c e m s = (v : Words) × ReadTo ks bytes (grouped ds n v) false c e × GroupsAre [] s × PartsFor (group_parts v) e m

abbrev pub AtEither : List (List ℕ) → List ℕ → List Declaration → List ℕ → Cursor → Elements → Made → Kept (Option Join) → Type 0
AtEither ks bytes ds n c e m s = AtMember ks bytes ds n c e m s ⊎ AtGroup ks bytes ds n c e m s

-- and its suffix
abbrev pub PastMember : List (List ℕ) → List ℕ → List Declaration → List ℕ → Cursor → Elements → Made → Kept (Option Join) → Type 0
PastMember ks bytes ds n c e m s =
    (o : List Left) × (l : Left) × (w : Words) × ReadTo ks bytes (kids ds n (got o l w)) false c e × (is_member w ≡ true) × (is_plain w ≡ true → Past is_mark (rest_of c))
    × GroupsAre (l ∷ o) s × PartsFor (state_parts (got o l w)) e m

abbrev pub PastGroup : List (List ℕ) → List ℕ → List Declaration → List ℕ → Cursor → Elements → Made → Kept (Option Join) → Type 0
PastGroup ks bytes ds n c e m s = GoneOn ks bytes ds n (Ok false) c e m s × GroupsAre [] s

abbrev pub PastEither : List (List ℕ) → List ℕ → List Declaration → List ℕ → Cursor → Elements → Made → Kept (Option Join) → Type 0
PastEither ks bytes ds n c e m s = PastMember ks bytes ds n c e m s ⊎ PastGroup ks bytes ds n c e m s

-- a suffix
plain_member : (w : Words) → is_plain w ≡ true → is_member w ≡ true
plain_member (name m) is = refl
plain_member nothing is = refl
plain_member (group w) is = refl
plain_member (marked w m) is = refl
plain_member (joined a j b) is = absurd (false≢true is)

bytes_of : (m : Mark) → mark_bytes m ≡ sign_bytes dtd (inner (suffix (suffix_of m)))
bytes_of mark.Optional = refl
bytes_of mark.Repeated = refl
bytes_of mark.Any = refl

past_member : (ks : List (List ℕ)) (bytes : List ℕ) (ds : List Declaration) (n : List ℕ) (old new : Cursor) (e : Elements) (first last : Made) (s : Kept (Option Join))
    → AtMember ks bytes ds n old e first s → MarkMade old first new last → PastMember ks bytes ds n new e last s
past_member ks bytes ds n old new e first last s (o, l, w, r, plain, g, parts) (None, (stayed, past), made) = (
  o,
  l,
  w,
  record { cursor = stays_at ks bytes (kids ds n (got o l w)) false old new r.cursor stayed; elements = r.elements },
  plain_member w plain,
  (λ _. past),
  g,
  (λ names. made ∙ parts names),
)
past_member ks bytes ds n old new e first last s (o, l, w, r, plain, g, parts) (Some m, moved, made) = (
  o,
  l,
  marked w (suffix_of m),
  over_quiet ks bytes (kids ds n (got o l w)) false (inner (suffix (suffix_of m))) (kids ds n (got o l (marked w (suffix_of m)))) old new e r tt refl
      (ap (λ t. kids_of ds n (cond t (Some (got o l (marked w (suffix_of m)))) None)) plain) tt (subst (λ g. Moved old g new) (bytes_of m) moved) ((λ x. x), (λ x. x)),
  refl,
  (λ no_more. absurd (false≢true no_more)),
  g,
  parts_more (state_parts (got o l w)) (state_parts (got o l (marked w (suffix_of m)))) (mark_parts m) e first last parts made (λ ks. member_marked ks o l w m),
)

past_group : (ks : List (List ℕ)) (bytes : List ℕ) (ds : List Declaration) (n : List ℕ) (old new : Cursor) (e : Elements) (first last : Made) (s : Kept (Option Join))
    → AtGroup ks bytes ds n old e first s → MarkMade old first new last → PastGroup ks bytes ds n new e last s
past_group ks bytes ds n old new e first last s (v, r, g, parts) (None, (stayed, past), made) = (
  (
    children (group v),
    grouped ds n v,
    record { cursor = stays_at ks bytes (grouped ds n v) false old new r.cursor stayed; elements = r.elements },
    (refl, refl, refl, past),
    (λ names. made ∙ parts names),
  ),
  g,
)
past_group ks bytes ds n old new e first last s (v, r, g, parts) (Some m, moved, made) = (
  (
    children (marked (group v) (suffix_of m)),
    full ds n (children (marked (group v) (suffix_of m))),
    over_quiet ks bytes (grouped ds n v) false (inner (suffix (suffix_of m))) (full ds n (children (marked (group v) (suffix_of m)))) old new e r tt refl refl tt
        (subst (λ g. Moved old g new) (bytes_of m) moved) ((λ x. x), (λ x. x)),
    (refl, refl, refl),
    parts_more (group_parts v) (content_parts (children (marked (group v) (suffix_of m)))) (mark_parts m) e first last parts made (λ ks. marked_parts m (tree_of ks v)),
  ),
  g,
)

pub past_either : (ks : List (List ℕ)) (bytes : List ℕ) (ds : List Declaration) (n : List ℕ) (old new : Cursor) (e : Elements) (first last : Made) (s : Kept (Option Join))
    → AtEither ks bytes ds n old e first s → MarkMade old first new last → PastEither ks bytes ds n new e last s
past_either ks bytes ds n old new e first last s (inl a) made = inl (past_member ks bytes ds n old new e first last s a made)
past_either ks bytes ds n old new e first last s (inr a) made = inr (past_group ks bytes ds n old new e first last s a made)

-- no group waits: all have ended
pub all_ended : (ks : List (List ℕ)) (bytes : List ℕ) (ds : List Declaration) (n : List ℕ) (c : Cursor) (e : Elements) (m : Made) (s t : Kept (Option Join))
    → PastEither ks bytes ds n c e m s → Popped s None t → GoneOn ks bytes ds n (Ok false) c e m t
all_ended ks bytes ds n c e m s t (inl (o, l, w, r, is, past, g, parts)) pop = absurd (cc (pop.0, g.0))
all_ended ks bytes ds n c e m s t (inr (done, g)) pop = done

-- a group waits, whose join is known or not; white space may follow
pub record Behind (ks : List (List ℕ)) (bytes : List ℕ) (ds : List Declaration) (n : List ℕ) (before : Option Join) (c : Cursor) (e : Elements) (m : Made) (s : Kept (Option Join)) : Type 0 where
  pub o : List Left
  pub l : Left
  pub w : Words
  pub h : Bool
  pub read : ReadTo ks bytes (kids ds n (got o l w)) h c e
  pub past : is_plain w ≡ true → SuffixPast h (rest_of c)
  pub member : is_member w ≡ true
  pub left : before ≡ left_join l
  pub groups : GroupsAre o s
  pub room : length o < 16
  pub parts : PartsFor (state_parts (got o l w)) e m

suffix_past : (w : Words) (b : Bool) (old new : Cursor) → BlanksRead old b new → (is_plain w ≡ true → Past is_mark (rest_of old)) → is_plain w ≡ true → SuffixPast (cond b true false) (rest_of new)
suffix_past w true old new blanks past plain = tt
suffix_past w false old new (stayed, _) past plain =
    subst (Past is_mark) (sym (ap (λ k. drop k new.text.now) stayed.1 ∙ ap (drop old.at) stayed.0)) (past plain)

pub behind : (ks : List (List ℕ)) (bytes : List ℕ) (ds : List Declaration) (n : List ℕ) (before : Option Join) (b : Bool) (old new : Cursor) (e : Elements) (m : Made) (s t : Kept (Option Join))
    → PastEither ks bytes ds n old e m s → Popped s (Some before) t → BlanksRead old b new → Behind ks bytes ds n before new e m t
behind ks bytes ds n before b old new e m s t (inl (o, l, w, r, is, past, g, parts)) pop blanks = record {
  o = o;
  l = l;
  w = w;
  h = cond b true false;
  read = record { cursor = over_blanks ks bytes (kids ds n (got o l w)) false b old new r.cursor refl blanks; elements = r.elements };
  past = suffix_past w b old new blanks past;
  member = is;
  left = cc (pop.0, g.0);
  groups = (cc (pop.0, g.0), ap length pop.1 ∙ g.1, omega arith);
  room = omega (arith, g.2);
  parts = parts;
}
behind ks bytes ds n before b old new e m s t (inr (done, g)) pop blanks = absurd (cc (pop.0, g.0))

pub blanks_past : (b : Bool) (old new : Cursor) → BlanksRead old b new → Past is_blank (rest_of new)
blanks_past true old new blanks = blanks.1
blanks_past false old new blanks = blanks.1

-- a group ends
may_close : (ds : List Declaration) (n : List ℕ) (o : List Left) (l : Left) (w : Words) (h : Bool) → refused h (kids ds n (got o l w)) (inner closes) ≡ false
may_close ds n o l w true = refl
may_close ds n o l w false = refl

closed : (ks : List (List ℕ)) (bytes : List ℕ) (ds : List Declaration) (n : List ℕ) (o : List Left) (l : Left) (w : Words) (h : Bool) (old new : Cursor) (e : Elements) (first last : Made) (s : Kept (Option Join))
    → ReadTo ks bytes (kids ds n (got o l w)) h old e → GroupsAre o s → length o < 16 → PartsFor (state_parts (got o l w)) e first → Moved old (41 ∷ []) new → JoinMade first (left_join l) last
    → AtEither ks bytes ds n new e last s
closed ks bytes ds n [] l w h old new e first last s r g room parts moved made = inr (
  put l w,
  over_quiet ks bytes (kids ds n (got [] l w)) h (inner closes) (grouped ds n (put l w)) old new e r tt (may_close ds n [] l w h) refl tt moved ((λ x. x), (λ x. x)),
  g,
  parts_joined (state_parts (got [] l w)) (group_parts (put l w)) l e first last parts made (λ ks. more_put ks [] l w),
)
closed ks bytes ds n (k ∷ o) l w h old new e first last s r g room parts moved made = inl (
  o,
  k,
  group (put l w),
  over_quiet ks bytes (kids ds n (got (k ∷ o) l w)) h (inner closes) (kids ds n (got o k (group (put l w)))) old new e r tt (may_close ds n (k ∷ o) l w h) refl tt moved ((λ x. x), (λ x. x)),
  refl,
  g,
  parts_joined (state_parts (got (k ∷ o) l w)) (state_parts (got o k (group (put l w)))) l e first last parts made (λ ks. group_closed ks k o l w),
)

pub group_ends : (ks : List (List ℕ)) (bytes : List ℕ) (ds : List Declaration) (n : List ℕ) (before : Option Join) (old new : Cursor) (e : Elements) (first last : Made) (s : Kept (Option Join)) (rest : List ℕ)
    → Behind ks bytes ds n before old e first s → rest ≡ rest_of old → 1 ≤ length rest → get_or rest 0 0 ≡ 41 → Moved old (take 1 (rest_of old)) new → JoinMade first before last
    → AtEither ks bytes ds n new e last s
group_ends ks bytes ds n before old new e first last s rest at same some is moved made =
    closed ks bytes ds n at.o at.l at.w at.h old new e first last s at.read at.groups at.room at.parts (one_read old new rest 41 same some is moved)
    (subst (λ b. JoinMade first b last) at.left made)

-- the cursor goes on in each step
pub onward_first : (c : Cursor) → Onward c c
onward_first c = (refl, omega arith)

pub onward_then : (a b c : Cursor) → Onward a b → Onward b c → Onward a c
onward_then a b c first then = (then.0 ∙ first.0, omega (arith, first.1, then.1))

pub onward_moved : (old new : Cursor) (g : List ℕ) → Moved old g new → Onward old new
onward_moved old new g m = (m.same, omega (arith, m.at))

pub onward_blanks : (b : Bool) (old new : Cursor) → BlanksRead old b new → Onward old new
onward_blanks true old new ((g, is, m), past) = onward_moved old new g m
onward_blanks false old new (stayed, past) = (stayed.0, omega (arith, stayed.1))

pub onward_mark : (old new : Cursor) (first last : Made) → MarkMade old first new last → Onward old new
onward_mark old new first last (None, (stayed, past), made) = (stayed.0, omega (arith, stayed.1))
onward_mark old new first last (Some m, moved, made) = onward_moved old new (mark_bytes m) moved
