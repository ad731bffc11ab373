-- What stands behind a member: a suffix, the end of its group, or what separates it from the next. Assumes nothing.
use Rattle.std.proofs.Common.{◌≡◌, ℕ, ◌<◌, ◌≤◌, ◌⊎◌, inl, inr, Bool, true, false, cond, ◌==◌, List, [], ◌∷◌, length, get_or, take, Some, None, Option, Ok, Result, sym, refl, ap, ◌∙◌, subst, arith}
use Rattle.std.proofs.lemmas.Bool.{false≢true}
use Rattle.std.proofs.lemmas.Bool.Decides.{nat_tests}
use Rattle.parts.specs.Stacks.{Kept, Pushed}
use Rattle.grammar.specs.Bytes.{is_blank, begins_name}
use Rattle.grammar.specs.Notations.Notation.{dtd}
use Rattle.grammar.specs.Words.{Words, Join as Spoken, is_plain, is_member, goes_on, join_number}
use Rattle.grammar.specs.Words.Words.{name, nothing, group, marked, joined}
use Rattle.grammar.specs.Words.Join.{alt, next, both}
use Rattle.grammar.specs.Words.Mark.{optional, repeated, any}
use Rattle.grammar.specs.Words.Sign.{opens, closes, suffix, separator}
use Rattle.grammar.specs.Lists.{Left, put}
use Rattle.grammar.specs.Lists.State.{want, got}
use Rattle.grammar.specs.Declarations.{Declaration, Sign, sign_bytes}
use Rattle.grammar.specs.Declarations.Sign.{inner, ends}
use Rattle.grammar.specs.Machine.{Spot, Phase, go, into, signed, feed_at, lettered, angled, hashed, kids_of, refused, SignFits}
use Rattle.grammar.specs.Machine.Spot.{kids}
use Rattle.text.specs.Contents.{Made}
use Rattle.text.specs.Cursors.{rest_of, Moved}
use Rattle.text.specs.Declaring.{ReadTo, GroupsAre, GoneOn, SuffixPast, JoinMade, SeparatorIs, may_join, PartsFor, left_join, join_of, join_rank, state_parts}
use Rattle.text.specs.Fronts.{Past, is_mark}
use Rattle.text.specs.Progress.{Fails}
use Rattle.text.specs.declared.cursor.Cursor.{Cursor}
use Rattle.text.specs.declared.elements.Elements.{Elements}
use Rattle.text.specs.declared.fault.TextCause.TheVariants.{NotDeclarations}
use Rattle.text.specs.declared.join.Join.{Join}
use Rattle.text.specs.declared.join.Join.TheVariants as join
use Rattle.text.specs.declared.mark.Mark.{Mark}
use Rattle.text.specs.declared.mark.Mark.TheVariants as mark
use Rattle.text.proofs.Walking.{placed, Refuses, byte_fails}
use Rattle.text.proofs.Quiet.{over_quiet}
use Rattle.text.proofs.Groups.{group_pushed}
use Rattle.text.proofs.Made.{suffix_of, more_put, parts_joined}

-- what a byte that is no separator is, behind a member
pub none_by : {X : Type 0} (t : Bool) (x y : Option X) → (t ≡ true → x ≡ None) → (t ≡ false → y ≡ None) → cond t x y ≡ None
none_by true x y f g = f refl
none_by false x y f g = g refl

pub sign_by : (h : Bool) (σ : Spot) (t : Bool) (x y : Option Sign) → (t ≡ true → signed h σ x ≡ None) → (t ≡ false → signed h σ y ≡ None) → signed h σ (cond t x y) ≡ None
sign_by h σ true x y f g = f refl
sign_by h σ false x y f g = g refl

pub never : {X : Type 0} (t : Bool) → t ≡ false → t ≡ true → X
never t off on = absurd (false≢true (sym off ∙ on))

-- a suffix behind white space, or behind another
no_suffix : (ds : List Declaration) (n : List ℕ) (o : List Left) (l : Left) (w : Words) (h : Bool) (b : ℕ) (rest : List ℕ) (m : Mark) → (is_plain w ≡ true → SuffixPast h (b ∷ rest)) → is_mark b ≡ true
    → signed h (kids ds n (got o l w)) (Some (inner (suffix (suffix_of m)))) ≡ None
no_suffix ds n o l w true b rest m past is = refl
no_suffix ds n o l w false b rest m past is = by (is_plain w) refl
  where
    by : (t : Bool) → is_plain w ≡ t → into (kids_of ds n (cond (is_plain w) (Some (got o l (marked w (suffix_of m)))) None)) ≡ None
    by true e = never (is_mark b) (past e) is
    by false e = ap (λ t. into (kids_of ds n (cond t (Some (got o l (marked w (suffix_of m)))) None))) e

refused_other : (ds : List Declaration) (n : List ℕ) (o : List Left) (l : Left) (h : Bool) (w : Words) (s : Sign) → go (kids ds n (got o l w)) s ≡ None → signed h (kids ds n (got o l w)) (Some s) ≡ None
refused_other ds n o l h w s e = by (refused h (kids ds n (got o l w)) s)
  where
    by : (t : Bool) → cond t None (into (go (kids ds n (got o l w)) s)) ≡ None
    by true = refl
    by false = ap into e

mark_is : (b c : ℕ) → (c ≡ 63) ⊎ ((c ≡ 43) ⊎ (c ≡ 42)) → (b == c) ≡ true → is_mark b ≡ true
mark_is b c is e = grind (arith, nat_tests)

-- which joins a list goes on with
by_join : (ds : List Declaration) (n : List ℕ) (o : List Left) (l : Left) (w : Words) (h : Bool) (j : Spoken) → goes_on (put l w) j ≡ false
    → signed h (kids ds n (got o l w)) (Some (inner (separator j))) ≡ None
by_join ds n o l w h j e = refused_other ds n o l h w (inner (separator j)) (ap (λ t. kids_of ds n (cond t (Some (want o (Some (put l w, j)))) None)) e)

unseparated : (ds : List Declaration) (n : List ℕ) (o : List Left) (l : Left) (w : Words) (h : Bool) (b : ℕ) (rest : List ℕ) → is_blank b ≡ false → (b == 41) ≡ false
    → (is_plain w ≡ true → SuffixPast h (b ∷ rest)) → ((b == 124) ≡ true → goes_on (put l w) alt ≡ false) → ((b == 44) ≡ true → goes_on (put l w) next ≡ false)
    → feed_at (kids ds n (got o l w)) h b ≡ None
unseparated ds n o l w h b rest blank close past bar comma =
    none_by (is_blank b) (Some (Phase.at σ true)) _ (λ e. never (is_blank b) blank e)
    (λ _. none_by (begins_name b) (lettered σ h b) _ (λ _. refl)
    (λ _. none_by (b == 60) (angled σ) _ (λ _. refl)
    (λ _. none_by (b == 35) (hashed σ) _ (λ _. refl)
    (λ _. sign_by h σ (b == 40) (Some (inner opens)) _ (λ _. refused_other ds n o l h w (inner opens) refl)
    (λ _. sign_by h σ (b == 41) (Some (inner closes)) _ (λ e. never (b == 41) close e)
    (λ _. sign_by h σ (b == 63) (Some (inner (suffix optional))) _ (λ e. no_suffix ds n o l w h b rest mark.Optional past (mark_is b 63 (inl refl) e))
    (λ _. sign_by h σ (b == 43) (Some (inner (suffix repeated))) _ (λ e. no_suffix ds n o l w h b rest mark.Repeated past (mark_is b 43 (inr (inl refl)) e))
    (λ _. sign_by h σ (b == 42) (Some (inner (suffix any))) _ (λ e. no_suffix ds n o l w h b rest mark.Any past (mark_is b 42 (inr (inr refl)) e))
    (λ _. sign_by h σ (b == 124) (Some (inner (separator alt))) _ (λ e. by_join ds n o l w h alt (bar e))
    (λ _. sign_by h σ (b == 44) (Some (inner (separator next))) _ (λ e. by_join ds n o l w h next (comma e))
    (λ _. sign_by h σ (b == 62) (Some ends) None (λ _. refused_other ds n o l h w ends refl) (λ _. refl))))))))))))
  where
    σ : Spot
    σ = kids ds n (got o l w)

-- where none stands, or another than joins the members before
not_separated : (ds : List Declaration) (n : List ℕ) (o : List Left) (l : Left) (w : Words) (h : Bool) (rest : List ℕ) → Past is_blank rest → Past (λ b. b == 41) rest
    → (is_plain w ≡ true → SuffixPast h rest) → SeparatorIs rest None → Refuses (kids ds n (got o l w)) h rest
not_separated ds n o l w h [] blank close past off = refl
not_separated ds n o l w h (b ∷ rest) blank close past off =
    unseparated ds n o l w h b rest blank close past (never (b == 124) off.0) (never (b == 44) off.1)

abbrev spoken_of : Join → Spoken
spoken_of join.Choice = alt
spoken_of join.Sequence = next
spoken_of join.Interleave = both

member_goes_on : (w : Words) (j : Spoken) → is_member w ≡ true → goes_on w j ≡ true
member_goes_on (name m) j is = refl
member_goes_on nothing j is = refl
member_goes_on (group w) j is = refl
member_goes_on (marked w m) j is = refl
member_goes_on (joined a k b) j is = absurd (false≢true is)

rank_is : (j : Spoken) → join_rank (join_of j) ≡ join_number j
rank_is alt = refl
rank_is next = refl
rank_is both = refl

number_is : (j : Join) → join_number (spoken_of j) ≡ join_rank j
number_is join.Choice = refl
number_is join.Sequence = refl
number_is join.Interleave = refl

spoken_back : (j : Join) → join_of (spoken_of j) ≡ j
spoken_back join.Choice = refl
spoken_back join.Sequence = refl
spoken_back join.Interleave = refl

list_goes_on : (l : Left) (w : Words) (j : Join) → is_member w ≡ true → goes_on (put l w) (spoken_of j) ≡ may_join (left_join l) j
list_goes_on None w j is = member_goes_on w (spoken_of j) is
list_goes_on (Some (a, k)) w j is = ap (λ i. i == join_number (spoken_of j)) (sym (rank_is k)) ∙ ap (λ i. join_rank (join_of k) == i) (number_is j)

other_separator : (ds : List Declaration) (n : List ℕ) (o : List Left) (l : Left) (w : Words) (h : Bool) (rest : List ℕ) (j : Join) → Past is_blank rest
    → Past (λ b. b == 41) rest → (is_plain w ≡ true → SuffixPast h rest) → is_member w ≡ true → SeparatorIs rest (Some j) → may_join (left_join l) j ≡ false
    → Refuses (kids ds n (got o l w)) h rest
other_separator ds n o l w h [] j blank close past is there other = refl
other_separator ds n o l w h (b ∷ rest) join.Choice blank close past is there other =
    unseparated ds n o l w h b rest blank close past (λ e. list_goes_on l w join.Choice is ∙ other) (never (b == 44) (ap (λ xs. get_or xs 0 0 == 44) there.1))
other_separator ds n o l w h (b ∷ rest) join.Sequence blank close past is there other =
    unseparated ds n o l w h b rest blank close past (never (b == 124) (ap (λ xs. get_or xs 0 0 == 124) there.1)) (λ e. list_goes_on l w join.Sequence is ∙ other)
other_separator ds n o l w h (b ∷ rest) join.Interleave blank close past is there other = absurd there

pub separator_missing : (ks : List (List ℕ)) (bytes : List ℕ) (ds : List Declaration) (n : List ℕ) (o : List Left) (l : Left) (w : Words) (h : Bool) (e : Elements) (c : Cursor) (rest : List ℕ)
    → ReadTo ks bytes (kids ds n (got o l w)) h c e → Past is_blank (rest_of c) → Past (λ b. b == 41) (rest_of c) → (is_plain w ≡ true → SuffixPast h (rest_of c)) → rest ≡ rest_of c
    → SeparatorIs rest None → Fails dtd ks bytes ds (placed NotDeclarations c.at)
separator_missing ks bytes ds n o l w h e c rest r blank close past same off =
    byte_fails ks bytes (kids ds n (got o l w)) h (rest_of c) c r.cursor refl
    (not_separated ds n o l w h (rest_of c) blank close past (subst (λ xs. SeparatorIs xs None) same off))

pub separator_other : (ks : List (List ℕ)) (bytes : List ℕ) (ds : List Declaration) (n : List ℕ) (o : List Left) (l : Left) (w : Words) (h : Bool) (e : Elements) (c : Cursor) (rest : List ℕ) (j : Join) (before : Option Join) (may : Bool)
    → ReadTo ks bytes (kids ds n (got o l w)) h c e → Past is_blank (rest_of c) → Past (λ b. b == 41) (rest_of c) → (is_plain w ≡ true → SuffixPast h (rest_of c)) → rest ≡ rest_of c
    → is_member w ≡ true → SeparatorIs rest (Some j) → before ≡ left_join l → may ≡ may_join before j → may ≡ false → Fails dtd ks bytes ds (placed NotDeclarations c.at)
separator_other ks bytes ds n o l w h e c rest j before may r blank close past same is there left told other =
    byte_fails ks bytes (kids ds n (got o l w)) h (rest_of c) c r.cursor refl
    (other_separator ds n o l w h (rest_of c) j blank close past is (subst (λ xs. SeparatorIs xs (Some j)) same there)
    (ap (λ i. may_join i j) (sym left) ∙ (sym told ∙ other)))

-- where it stands
pub separator_there : (rest : List ℕ) (j : Join) → SeparatorIs rest (Some j) → 1 ≤ length rest
separator_there rest join.Choice there = rw there.1 (omega arith)
separator_there rest join.Sequence there = rw there.1 (omega arith)
separator_there rest join.Interleave there = absurd there

separator_moved : (old new : Cursor) (rest : List ℕ) (j : Join) → rest ≡ rest_of old → SeparatorIs rest (Some j) → Moved old (take 1 (rest_of old)) new
    → Moved old (sign_bytes dtd (inner (separator (spoken_of j)))) new
separator_moved old new rest join.Choice same there m = subst (λ g. Moved old g new) (ap (take 1) (sym same ∙ there.1)) m
separator_moved old new rest join.Sequence same there m = subst (λ g. Moved old g new) (ap (take 1) (sym same ∙ there.1)) m
separator_moved old new rest join.Interleave same there m = absurd there

may_separate : (ds : List Declaration) (n : List ℕ) (o : List Left) (l : Left) (w : Words) (h : Bool) (j : Spoken) → refused h (kids ds n (got o l w)) (inner (separator j)) ≡ false
may_separate ds n o l w true j = refl
may_separate ds n o l w false j = refl

separator_read : (ks : List (List ℕ)) (bytes : List ℕ) (ds : List Declaration) (n : List ℕ) (o : List Left) (l : Left) (w : Words) (h : Bool) (e : Elements) (old new : Cursor) (rest : List ℕ) (j : Join)
    → ReadTo ks bytes (kids ds n (got o l w)) h old e → rest ≡ rest_of old → SeparatorIs rest (Some j) → goes_on (put l w) (spoken_of j) ≡ true → Moved old (take 1 (rest_of old)) new
    → ReadTo ks bytes (kids ds n (want o (Some (put l w, spoken_of j)))) false new e
separator_read ks bytes ds n o l w h e old new rest j r same there on m =
    over_quiet ks bytes (kids ds n (got o l w)) h (inner (separator (spoken_of j))) (kids ds n (want o (Some (put l w, spoken_of j)))) old new e r tt
    (may_separate ds n o l w h (spoken_of j)) (ap (λ t. kids_of ds n (cond t (Some (want o (Some (put l w, spoken_of j)))) None)) on) (fits j there)
    (separator_moved old new rest j same there m) ((λ x. x), (λ x. x))
  where
    fits : (j : Join) → SeparatorIs rest (Some j) → SignFits (inner (separator (spoken_of j)))
    fits join.Choice there = tt
    fits join.Sequence there = tt
    fits join.Interleave there = absurd there

pub separator_taken : (ks : List (List ℕ)) (bytes : List ℕ) (ds : List Declaration) (n : List ℕ) (o : List Left) (l : Left) (w : Words) (h : Bool) (e : Elements) (old new : Cursor) (rest : List ℕ) (j : Join) (before : Option Join) (may : Bool)
    (first last : Made) (s t : Kept (Option Join)) (pushed : Result (Unit {0}) (Option Join))
    → ReadTo ks bytes (kids ds n (got o l w)) h old e → rest ≡ rest_of old → is_member w ≡ true → SeparatorIs rest (Some j) → before ≡ left_join l → may ≡ may_join before j → may ≡ true
    → GroupsAre o s → length o < 16 → PartsFor (state_parts (got o l w)) e first → JoinMade first before last → Moved old (take 1 (rest_of old)) new → Pushed s (Some j) pushed t
    → GoneOn ks bytes ds n (Ok true) new e last t
separator_taken ks bytes ds n o l w h e old new rest j before may first last s t pushed r same is there left told on g room parts made m push = (
  o,
  put l w,
  spoken_of j,
  separator_read ks bytes ds n o l w h e old new rest j r same there (list_goes_on l w j is ∙ ap (λ i. may_join i j) (sym left) ∙ sym told ∙ on) m,
  group_pushed (Some (put l w, spoken_of j)) o s t pushed g room (subst (λ i. Pushed s (Some i) pushed t) (sym (spoken_back j)) push),
  parts_joined (state_parts (got o l w)) (state_parts (want o (Some (put l w, spoken_of j)))) l e first last parts (subst (λ b. JoinMade first b last) left made) (λ ks. more_put ks o l w),
)
