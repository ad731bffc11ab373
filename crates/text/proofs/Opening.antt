-- How a declaration begins and ends: over the gap before it, its word and its name, and over its '>'. Assumes nothing.
use Rattle.std.proofs.Common.{◌≡◌, ℕ, suc, ◌+◌, ◌-◌, ◌<◌, ◌≤◌, inl, inr, Bool, true, false, cond, ◌==◌, ◌||◌, List, [], ◌∷◌, ◌++◌, length, get_or, take, drop, Some, None, Option, sym, refl, ap, ◌∙◌, subst, arith, length-append}
use Rattle.std.specs.Prelude.{codes, Ok, Err}
use Rattle.std.specs.Borrow.{Bor}
use Rattle.std.specs.Option.{is_some}
use Rattle.std.proofs.lemmas.List.{length-map, nil_from_length}
use Rattle.std.proofs.lemmas.Bool.{eqb-true, false≢true, or_parts}
use Rattle.std.proofs.lemmas.Bool.Decides.{nat_tests}
use Rattle.parts.specs.declared.part.Part.{Part}
use Rattle.models.specs.Written.{subtrees, part_of, sheet}
use Rattle.grammar.specs.Bytes.{is_blank, begins_name, IsName, NameEnds, Bit, AreBits, bits, comment}
use Rattle.grammar.specs.Notations.Notation.{dtd}
use Rattle.grammar.specs.Words.{Words}
use Rattle.grammar.specs.Words.Words.{name, nothing, group, marked, joined}
use Rattle.grammar.specs.Words.Join.{alt, next, both}
use Rattle.grammar.specs.Words.Mark.{optional, repeated, any}
use Rattle.grammar.specs.Words.Sign.{names, opens, closes, suffix, separator}
use Rattle.grammar.specs.Declarations.{Content, Declaration, Sign, words, all_names}
use Rattle.grammar.specs.Declarations.Sign.{element, declared, inner, ends}
use Rattle.std.specs.Str.{bytes_eq}
use Rattle.names.specs.Numbering.{known_after}
use Rattle.grammar.specs.Meaning.{tree_of}
use Rattle.grammar.specs.Faults.{Gives, SignStands, PartsBeyond, names_among, begun, is_declared}
use Rattle.grammar.specs.Faults.Cause.{kind}
use Rattle.grammar.specs.Machine.{Spot, made, go, spelled, tight, refused, signed, sign_at, lettered, angled, hashed, feed_at, is_outside, spot_read}
use Rattle.grammar.specs.Machine.Spot.{outside, opened, titled, kids, mixed, wanted, starless, grouped, full}
use Rattle.grammar.specs.Machine.Fixed.{the_element}
use Rattle.grammar.specs.Progress.{StandsAt, NotNext, NoCharNext}
use Rattle.grammar.proofs.Steps.{passes_comment, stops_before_comment, stops_in_comment, ends_whole, spelled_on, sign_stands, ended_beyond}
use Rattle.text.specs.Contents.{AllOf}
use Rattle.text.specs.Cursors.{rest_of, Moved, Stayed, BlanksRead, NameRead, CommentRead}
use Rattle.text.specs.Declaring.{ReadTo, WordTaken, GapPast, GapRead, content_parts, Closes}
use Rattle.text.specs.Fronts.{Past, Differs, Breaks, IsDashes, is_mark}
use Rattle.text.specs.Progress.{ElementsAre, TakenIn, AtFaultBy, CursorAt, Fails}
use Rattle.text.specs.declared.cursor.Cursor.{Cursor}
use Rattle.text.specs.declared.elements.Elements.{Elements}
use Rattle.text.specs.declared.fault.TextCause.{TextCause}
use Rattle.text.specs.declared.fault.TextCause.TheVariants.{NotDeclarations, TooManyParts}
use Rattle.text.specs.declared.fault.PlacedCause.{PlacedCause}
use Rattle.text.proofs.Walking.{placed, rest_is, stays_at, over_blanks, over_sign, sign_fails, Refuses, byte_fails, word_fails}

-- what is left where nothing was read, and behind white space
pub stayed_rest : (old new : Cursor) → Stayed old new → rest_of new ≡ rest_of old
stayed_rest old new s = ap (λ k. drop k new.text.now) s.1 ∙ ap (drop old.at) s.0

pub blanks_past : (old new : Cursor) (b : Bool) → BlanksRead old b new → Past is_blank (rest_of new)
blanks_past old new true x = x.1
blanks_past old new false x = x.1

-- reading still stands between the same declarations
abbrev pub StaysBetween : Cursor → Cursor → Type 0
StaysBetween old new =
    (ks : List (List ℕ)) (bytes : List ℕ) (ds : List Declaration) (h : Bool) → CursorAt ks bytes (outside ds) h old → (g : Bool) × CursorAt ks bytes (outside ds) g new

pub over_comment : (ks : List (List ℕ)) (bytes : List ℕ) (ds : List Declaration) (h : Bool) (us : List Bit) (old new : Cursor) → CursorAt ks bytes (outside ds) h old → AreBits us
    → Moved old (comment (bits us)) new → CursorAt ks bytes (outside ds) true new
over_comment ks bytes ds h us old new r are m = record {
  text = m.same ∙ r.text;
  at =
      subst (λ k. StandsAt ks bytes k (outside ds) true) (sym m.at)
      (passes_comment ks bytes old.at ds h us (rest_of new) r.at are (rest_is ks bytes (outside ds) h old r ∙ m.read));
}

-- the gap: over white space and a comment
past_blanks : (start a b : Cursor) (k : Bool) → StaysBetween start a → BlanksRead a k b → StaysBetween start b
past_blanks start a b k so blank ks bytes ds h r =
    let (g, at) = so ks bytes ds h r in
    (cond k true g, over_blanks ks bytes (outside ds) g k a b at refl blank)

pub between_on : (start a b c : Cursor) (k : Bool) {t : Bool} → StaysBetween start a → BlanksRead a k b → CommentRead b (Ok t) c → t ≡ true → StaysBetween start c
between_on start a b c k {t} so blank read e ks bytes ds h r =
    let (us, are, m) = subst (λ x. CommentRead b (Ok x) c) e read in
    let (g, at) = past_blanks start a b k so blank ks bytes ds h r in
    (true, over_comment ks bytes ds g us b c at are m)

no_less : (a b : Cursor) (k : Bool) → BlanksRead a k b → (b.text.now ≡ a.text.now) × (a.at ≤ b.at)
no_less a b true ((g, is, m), past) = (m.same, omega (arith, m.at))
no_less a b false (s, past) = (s.0, omega (arith, s.1))

pub gap_smaller : (a b c : Cursor) (k : Bool) {t : Bool} → BlanksRead a k b → CommentRead b (Ok t) c → t ≡ true → length c.text.now - c.at < length a.text.now - a.at
gap_smaller a b c k {t} blank read e =
    let (us, are, m) = subst (λ x. CommentRead b (Ok x) c) e read in
    let (same, le) = no_less a b k blank in
    let size : length c.text.now ≡ length a.text.now = ap length (m.same ∙ same) in
    omega (arith, m.at, c.inside)

-- where it ends
pub gap_read : (start a b c : Cursor) (k : Bool) {t : Bool} → StaysBetween start a → BlanksRead a k b → CommentRead b (Ok t) c → t ≡ false
    → (ks : List (List ℕ)) (bytes : List ℕ) (ds : List Declaration) (h : Bool) → CursorAt ks bytes (outside ds) h start → GapRead ks bytes ds (Ok tt) c
gap_read start a b c k {t} so blank read e ks bytes ds h r =
    let (s, none) = subst (λ x. CommentRead b (Ok x) c) e read in
    let (g, at) = past_blanks start a b k so blank ks bytes ds h r in
    ((g, stays_at ks bytes (outside ds) g b c at s), (subst (Past is_blank) (sym (stayed_rest b c s)) (blanks_past a b k blank), none))

-- a comment that does not end
in_comment : (ks : List (List ℕ)) (bytes : List ℕ) (ds : List Declaration) (h : Bool) (us : List Bit) (done rest : List ℕ) (c : Cursor) (i : ℕ) → CursorAt ks bytes (outside ds) h c
    → AreBits us → IsDashes done → Breaks done rest → rest_of c ≡ codes "<!--" ++ (bits us ++ (done ++ rest)) → i ≡ c.at + 4 + (length (bits us) + length done)
    → Gives dtd ks bytes ds (Some (kind, i))
in_comment ks bytes ds h us [] rest c i r are is stop e place =
    let same : c.at + 4 + length (bits us) ≡ i = omega arith in
    subst (λ k. Gives dtd ks bytes ds (Some (kind, k))) same
    ((stops_in_comment ks bytes c.at ds h us rest r.at are).0 (rest_is ks bytes (outside ds) h c r ∙ e) (no_char rest stop))
  where
    no_char : (rest : List ℕ) → Breaks [] rest → NoCharNext rest
    no_char [] x = tt
    no_char (b ∷ rest) x = x.1
in_comment ks bytes ds h us (x ∷ []) rest c i r are is stop e place =
    let same : c.at + 5 + length (bits us) ≡ i = omega arith in
    subst (λ k. Gives dtd ks bytes ds (Some (kind, k))) same
    ((stops_in_comment ks bytes c.at ds h us rest r.at are).1
    (rest_is ks bytes (outside ds) h c r ∙ (e ∙ ap (λ y. codes "<!--" ++ (bits us ++ (y ∷ rest))) is)) (no_char rest stop))
  where
    no_char : (rest : List ℕ) → Breaks (x ∷ []) rest → NoCharNext rest
    no_char [] z = tt
    no_char (b ∷ rest) z = z.1
in_comment ks bytes ds h us (x ∷ y ∷ []) rest c i r are is stop e place =
    let same : c.at + 6 + length (bits us) ≡ i = omega arith in
    subst (λ k. Gives dtd ks bytes ds (Some (kind, k))) same
    ((stops_in_comment ks bytes c.at ds h us rest r.at are).2
    (rest_is ks bytes (outside ds) h c r
    ∙ (e ∙ ap (λ z. codes "<!--" ++ (bits us ++ (z ∷ y ∷ rest))) is.0 ∙ ap (λ z. codes "<!--" ++ (bits us ++ (45 ∷ z ∷ rest))) is.1)) (no_end rest stop))
  where
    no_end : (rest : List ℕ) → Breaks (x ∷ y ∷ []) rest → NotNext 62 rest
    no_end [] z = tt
    no_end (b ∷ rest) z = z
in_comment ks bytes ds h us (x ∷ y ∷ z ∷ done) rest c i r are is stop e place = absurd is

not_next : (b : ℕ) (rest : List ℕ) → Differs (b ∷ []) rest → NotNext b rest
not_next b [] d = tt
not_next b (x ∷ rest) d = d

comment_fails : (ks : List (List ℕ)) (bytes : List ℕ) (ds : List Declaration) (h : Bool) (old new : Cursor) (place : ℕ) → CursorAt ks bytes (outside ds) h old
    → CommentRead old (Err place) new → Gives dtd ks bytes ds (Some (kind, place))
comment_fails ks bytes ds h old new place r (inl (rest, e, stop, is)) =
    subst (λ k. Gives dtd ks bytes ds (Some (kind, k))) (sym is)
    (stops_before_comment ks bytes old.at ds h rest r.at (rest_is ks bytes (outside ds) h old r ∙ e) (not_next 45 rest stop))
comment_fails ks bytes ds h old new place r (inr (rest, n, e, (us, done, left, are, dashes, breaks, size, split), is)) =
    in_comment ks bytes ds h us done left old place r are dashes breaks (e ∙ ap (λ x. codes "<!--" ++ x) split) (is ∙ ap (λ k. old.at + 4 + k) size)

pub gap_fails : (start a b c : Cursor) (k : Bool) (place : ℕ) → StaysBetween start a → BlanksRead a k b → CommentRead b (Err place) c → (ks : List (List ℕ)) (bytes : List ℕ)
    (ds : List Declaration) (h : Bool) → CursorAt ks bytes (outside ds) h start → Fails dtd ks bytes ds (placed NotDeclarations place)
gap_fails start a b c k place so blank read ks bytes ds h r =
    let (g, at) = past_blanks start a b k so blank ks bytes ds h r in
    (comment_fails ks bytes ds g b c place at read, inl refl)

-- a byte that is no sign where a sign is refused
not_signed : (g : Bool) (σ : Spot) (s : Sign) (t : Bool) (o : Option Sign) → (t ≡ true → signed g σ (Some s) ≡ None) → signed g σ o ≡ None → signed g σ (cond t (Some s) o) ≡ None
not_signed g σ s true o here behind = here refl
not_signed g σ s false o here behind = behind

-- the eight signs of one byte are refused, where that byte stands
abbrev pub Unsigned : Bool → Spot → ℕ → Type 0
Unsigned g σ b =
    ((b == 40) ≡ true → signed g σ (Some (inner opens)) ≡ None)
    × ((b == 41) ≡ true → signed g σ (Some (inner closes)) ≡ None)
    × ((b == 63) ≡ true → signed g σ (Some (inner (suffix optional))) ≡ None)
    × ((b == 43) ≡ true → signed g σ (Some (inner (suffix repeated))) ≡ None)
    × ((b == 42) ≡ true → signed g σ (Some (inner (suffix any))) ≡ None)
    × ((b == 124) ≡ true → signed g σ (Some (inner (separator alt))) ≡ None)
    × ((b == 44) ≡ true → signed g σ (Some (inner (separator next))) ≡ None)
    × ((b == 62) ≡ true → signed g σ (Some ends) ≡ None)

pub unsigned : (g : Bool) (σ : Spot) (b : ℕ) → Unsigned g σ b → signed g σ (sign_at b) ≡ None
unsigned g σ b (u0, u1, u2, u3, u4, u5, u6, u7) =
    not_signed g σ (inner opens) (b == 40) _ u0
    (not_signed g σ (inner closes) (b == 41) _ u1
    (not_signed g σ (inner (suffix optional)) (b == 63) _ u2
    (not_signed g σ (inner (suffix repeated)) (b == 43) _ u3
    (not_signed g σ (inner (suffix any)) (b == 42) _ u4
    (not_signed g σ (inner (separator alt)) (b == 124) _ u5
    (not_signed g σ (inner (separator next)) (b == 44) _ u6
    (not_signed g σ ends (b == 62) None u7 refl)))))))

-- a byte other than white space, where neither letters nor '<' and '#' lead on
pub byte_refused : (σ : Spot) (h : Bool) (b : ℕ) → is_blank b ≡ false → (begins_name b ≡ true → lettered σ h b ≡ None) → ((b == 60) ≡ true → angled σ ≡ None) → hashed σ ≡ None
    → signed h σ (sign_at b) ≡ None → feed_at σ h b ≡ None
byte_refused σ h b blank letter angle hash sign = rw blank (by_name (begins_name b) letter)
  where
    by_hash : (t : Bool) → cond t (hashed σ) (signed h σ (sign_at b)) ≡ None
    by_hash true = hash
    by_hash false = sign

    by_angle : (t : Bool) → (t ≡ true → angled σ ≡ None) → cond t (angled σ) (cond (b == 35) (hashed σ) (signed h σ (sign_at b))) ≡ None
    by_angle true e = e refl
    by_angle false e = by_hash (b == 35)

    by_name : (t : Bool) → (t ≡ true → lettered σ h b ≡ None)
        → cond t (lettered σ h b) (cond (b == 60) (angled σ) (cond (b == 35) (hashed σ) (signed h σ (sign_at b)))) ≡ None
    by_name true e = e refl
    by_name false e = by_angle (b == 60) angle

-- between declarations only '<' is taken
outside_unsigned : (ds : List Declaration) (h : Bool) (b : ℕ) → Unsigned h (outside ds) b
outside_unsigned ds true b =
    ((λ e. refl), (λ e. refl), (λ e. refl), (λ e. refl), (λ e. refl), (λ e. refl), (λ e. refl), (λ e. refl))
outside_unsigned ds false b =
    ((λ e. refl), (λ e. refl), (λ e. refl), (λ e. refl), (λ e. refl), (λ e. refl), (λ e. refl), (λ e. refl))

pub outside_refused : (ds : List Declaration) (h : Bool) (b : ℕ) → is_blank b ≡ false → (b == 60) ≡ false → feed_at (outside ds) h b ≡ None
outside_refused ds h b blank other =
    byte_refused (outside ds) h b blank (λ e. refl) (λ e. absurd (false≢true (sym other ∙ e))) refl
    (unsigned h (outside ds) b (outside_unsigned ds h b))

may_begin : (ds : List Declaration) (h : Bool) → refused h (outside ds) element ≡ false
may_begin ds true = refl
may_begin ds false = refl

-- the text ends
pub begin_none : (ks : List (List ℕ)) (bytes : List ℕ) (ds : List Declaration) (c : Cursor) (e : Elements) (rest : List ℕ) {t : Bool} → GapRead ks bytes ds (Ok tt) c
    → ElementsAre dtd ks (spelled (outside ds)) e → rest ≡ rest_of c → t ≡ (length rest == 0) → t ≡ true
    → Gives dtd ks bytes ds None × ((h : Bool) × ReadTo ks bytes (outside ds) h c e)
begin_none ks bytes ds c e rest ((h, r), past) are same is empty = (
  ends_whole ks bytes c.at ds h r.at (rest_is ks bytes (outside ds) h c r ∙ (sym same ∙ nil_from_length rest (eqb-true (length rest) 0 (sym is ∙ empty)))),
  (h, record { cursor = r; elements = are }),
)

-- or no declaration begins
begin_stops : (ks : List (List ℕ)) (bytes : List ℕ) (ds : List Declaration) (h : Bool) (c : Cursor) (done left rest : List ℕ) → CursorAt ks bytes (outside ds) h c → GapPast (rest_of c)
    → 0 < length (rest_of c) → codes "<!ELEMENT" ≡ done ++ left → rest_of c ≡ done ++ rest → Differs left rest
    → Fails dtd ks bytes ds (placed NotDeclarations (c.at + length done))
begin_stops ks bytes ds h c [] left [] r past some w e d = absurd (omega (arith, ap length e))
begin_stops ks bytes ds h c [] left (b ∷ rest) r past some w e d =
    let here : c.at ≡ c.at + 0 = omega arith in
    subst (λ k. Fails dtd ks bytes ds (placed NotDeclarations k)) here
    (byte_fails ks bytes (outside ds) h (b ∷ rest) c r e
    (outside_refused ds h b (subst (Past is_blank) e past.0) (subst (λ ws. Differs ws (b ∷ rest)) (sym w) d)))
begin_stops ks bytes ds h c (x ∷ done) left rest r past some w e d =
    word_fails ks bytes (outside ds) h (the_element ds) (x ∷ done) left rest c r refl (may_begin ds h) w (omega arith) e d
    (λ two. no_dash rest (λ more bar. past.1 more (e ∙ ap (λ ws. ws ++ rest) two ∙ ap (λ ws. 60 ∷ 33 ∷ ws) bar)))
  where
    no_dash : (rest : List ℕ) → ((more : List ℕ) → rest ≡ 45 ∷ more → ⊥) → NotNext 45 rest
    no_dash [] never = tt
    no_dash (b ∷ rest) never = by (b == 45) refl
      where
        by : (t : Bool) → (b == 45) ≡ t → (b == 45) ≡ false
        by true is = absurd (never rest (ap (λ x. x ∷ rest) (eqb-true b 45 is)))
        by false is = is

pub begin_misses : (ks : List (List ℕ)) (bytes : List ℕ) (ds : List Declaration) (old new : Cursor) (rest : List ℕ) (f : PlacedCause) {t : Bool} → GapRead ks bytes ds (Ok tt) old
    → rest ≡ rest_of old → t ≡ (length rest == 0) → t ≡ false → WordTaken old (codes "<!ELEMENT") (Err f) new → Fails dtd ks bytes ds f
begin_misses ks bytes ds old new rest f ((h, r), past) same is some (cause, (s, (done, left, behind, w, e, d, place))) =
    subst (Fails dtd ks bytes ds) (ap (λ k. placed NotDeclarations k) (sym place) ∙ ap (λ x. placed x f.place) (sym cause))
    (begin_stops ks bytes ds h old done left behind r past (subst (λ xs. 0 < length xs) same (more (length rest) (sym is ∙ some))) w e d)
  where
    more : (n : ℕ) → (n == 0) ≡ false → 0 < n
    more n x = grind (arith, nat_tests)

-- or one does
pub begin_reads : (ks : List (List ℕ)) (bytes : List ℕ) (ds : List Declaration) (old new : Cursor) (f : Elements) (u : Unit {0}) → GapRead ks bytes ds (Ok tt) old
    → Moved old (codes "<!ELEMENT") new → TakenIn dtd ks (spelled (outside ds)) element (Ok u) f → ReadTo ks bytes (opened ds) false new f
begin_reads ks bytes ds old new f u ((h, r), past) m (one, taken) = record {
  cursor = over_sign ks bytes (outside ds) h element (opened ds) old new r (may_begin ds h) refl tt m tt one;
  elements = taken;
}

pub begin_fails : (ks : List (List ℕ)) (bytes : List ℕ) (ds : List Declaration) (old new : Cursor) (cause : TextCause) → GapRead ks bytes ds (Ok tt) old
    → Moved old (codes "<!ELEMENT") new → AtFaultBy dtd ks (spelled (outside ds)) element cause → Fails dtd ks bytes ds (placed cause old.at)
begin_fails ks bytes ds old new cause ((h, r), past) m bad =
    sign_fails ks bytes (outside ds) h element (opened ds) cause (rest_of new) old r (may_begin ds h) refl tt m.read tt bad

-- a name that is declared: behind white space
opened_unsigned : (ds : List Declaration) (h : Bool) (b : ℕ) → Unsigned h (opened ds) b
opened_unsigned ds true b =
    ((λ e. refl), (λ e. refl), (λ e. refl), (λ e. refl), (λ e. refl), (λ e. refl), (λ e. refl), (λ e. refl))
opened_unsigned ds false b =
    ((λ e. refl), (λ e. refl), (λ e. refl), (λ e. refl), (λ e. refl), (λ e. refl), (λ e. refl), (λ e. refl))

unspaced : (ds : List Declaration) (rest : List ℕ) → Past is_blank rest → Refuses (opened ds) false rest
unspaced ds [] past = refl
unspaced ds (b ∷ rest) past =
    byte_refused (opened ds) false b past (λ e. refl) (λ e. refl) refl (unsigned false (opened ds) b (opened_unsigned ds false b))

pub title_unspaced : (ks : List (List ℕ)) (bytes : List ℕ) (ds : List Declaration) (old new : Cursor) {t : Bool} → CursorAt ks bytes (opened ds) false old
    → BlanksRead old t new → t ≡ false → Fails dtd ks bytes ds (placed NotDeclarations new.at)
title_unspaced ks bytes ds old new {t} r blank none =
    let (s, past) = subst (λ b. BlanksRead old b new) none blank in
    byte_fails ks bytes (opened ds) false (rest_of new) new (stays_at ks bytes (opened ds) false old new r s) refl (unspaced ds (rest_of new) past)

unnamed : (ds : List Declaration) (rest : List ℕ) → Past is_blank rest → Past begins_name rest → Refuses (opened ds) true rest
unnamed ds [] past none = refl
unnamed ds (b ∷ rest) past none =
    byte_refused (opened ds) true b past (λ e. absurd (false≢true (sym none ∙ e))) (λ e. refl) refl (unsigned true (opened ds) b (opened_unsigned ds true b))

title_behind : (ks : List (List ℕ)) (bytes : List ℕ) (ds : List Declaration) (old new : Cursor) {t : Bool} → CursorAt ks bytes (opened ds) false old
    → BlanksRead old t new → t ≡ true → CursorAt ks bytes (opened ds) true new
title_behind ks bytes ds old new {t} r blank some =
    over_blanks ks bytes (opened ds) false true old new r refl (subst (λ b. BlanksRead old b new) some blank)

pub title_missing : (ks : List (List ℕ)) (bytes : List ℕ) (ds : List Declaration) (old mid new : Cursor) {t : Bool} → CursorAt ks bytes (opened ds) false old
    → BlanksRead old t mid → t ≡ true → NameRead mid None new → Fails dtd ks bytes ds (placed NotDeclarations new.at)
title_missing ks bytes ds old mid new {t} r blank some (s, none) =
    byte_fails ks bytes (opened ds) true (rest_of new) new (stays_at ks bytes (opened ds) true mid new (title_behind ks bytes ds old mid r blank some) s) refl
    (unnamed ds (rest_of new) (subst (Past is_blank) (sym (stayed_rest mid new s)) (blanks_past old mid t blank)) none)

pub title_read : (ks : List (List ℕ)) (bytes : List ℕ) (ds : List Declaration) (n : List ℕ) (old mid new : Cursor) (f : Elements) (s : ℕ) {t : Bool}
    → CursorAt ks bytes (opened ds) false old → BlanksRead old t mid → t ≡ true → Moved mid n new → IsName n → NameEnds (rest_of new)
    → TakenIn dtd ks (spelled (opened ds)) (declared n) (Ok s) f → ReadTo ks bytes (titled ds n) false new f
title_read ks bytes ds n old mid new f s {t} r blank some moved is whole (one, taken) =
    let at = title_behind ks bytes ds old mid r blank some in record {
      cursor = over_sign ks bytes (opened ds) true (declared n) (titled ds n) mid new at refl refl is moved whole one;
      elements = subst (λ ss. ElementsAre dtd ks ss f) (sym (spelled_on ks bytes mid.at (opened ds) true (declared n) (titled ds n) at.at refl)) taken;
    }

pub title_stands : (ks : List (List ℕ)) (bytes : List ℕ) (ds : List Declaration) (n : List ℕ) (old mid new : Cursor) {b : Bool} → CursorAt ks bytes (opened ds) false old
    → BlanksRead old b mid → b ≡ true → Moved mid n new → IsName n → NameEnds (rest_of new) → SignStands dtd bytes mid.at (spelled (opened ds)) (declared n)
title_stands ks bytes ds n old mid new r blank some moved is whole =
    let at = title_behind ks bytes ds old mid r blank some in
    sign_stands ks bytes mid.at (opened ds) true (declared n) (titled ds n) (rest_of new) at.at refl refl is (rest_is ks bytes (opened ds) true mid at ∙ moved.read) whole

pub title_fails : (ks : List (List ℕ)) (bytes : List ℕ) (ds : List Declaration) (n : List ℕ) (old mid new : Cursor) (cause : TextCause) {t : Bool}
    → CursorAt ks bytes (opened ds) false old → BlanksRead old t mid → t ≡ true → Moved mid n new → IsName n → NameEnds (rest_of new)
    → AtFaultBy dtd ks (spelled (opened ds)) (declared n) cause → Fails dtd ks bytes ds (placed cause mid.at)
title_fails ks bytes ds n old mid new cause {t} r blank some moved is whole bad =
    sign_fails ks bytes (opened ds) true (declared n) (titled ds n) cause (rest_of new) mid (title_behind ks bytes ds old mid r blank some) refl refl is moved.read whole bad

-- the number of parts does not depend on the known names
same_size : (ks js : List (List ℕ)) (w : Words) → length (subtrees (tree_of ks w)) ≡ length (subtrees (tree_of js w))
same_size ks js (name n) = refl
same_size ks js nothing = refl
same_size ks js (group w) = same_size ks js w
same_size ks js (marked w optional) = let same = same_size ks js w in simp length-append (omega arith)
same_size ks js (marked w repeated) = let same = same_size ks js w in simp length-append (omega arith)
same_size ks js (marked w any) = let same = same_size ks js w in simp length-append (omega arith)
same_size ks js (joined l alt r) = let left = same_size ks js l in let right = same_size ks js r in simp length-append (omega arith)
same_size ks js (joined l next r) = let left = same_size ks js l in let right = same_size ks js r in simp length-append (omega arith)
same_size ks js (joined l both r) = let left = same_size ks js l in let right = same_size ks js r in simp length-append (omega arith)

pub same_number : (ks js : List (List ℕ)) (w : Words) → length (sheet (tree_of ks w)) ≡ length (sheet (tree_of js w))
same_number ks js w = length-map (subtrees (tree_of ks w)) part_of ∙ same_size ks js w ∙ sym (length-map (subtrees (tree_of js w)) part_of)

pub content_number : (ks js : List (List ℕ)) (k : Content) → length (content_parts k ks) ≡ length (content_parts k js)
content_number ks js k = same_number ks js (words k)

-- the parts, where they were asked for
pub too_many : (all : List Part) (r : Option (Bor (List Part))) → AllOf all r → is_some r ≡ false → 256 < length all
too_many all None x e = x
too_many all (Some some) x e = absurd (false≢true (sym e))

pub not_too_many : (all : List Part) (r : Option (Bor (List Part))) → AllOf all r → is_some r ≡ true → length all ≤ 256
not_too_many all None x e = absurd (false≢true e)
not_too_many all (Some some) x e = x.1

-- where a declaration may end
pub record Ending (ds : List Declaration) (n : List ℕ) (k : Content) (σ : Spot) : Type 0 where
  pub loose : tight σ ≡ false
  pub goes : go σ ends ≡ Some (outside (ds ++ (made n k ∷ [])))
  pub read : spot_read σ ≡ ds
  pub inside : is_outside σ ≡ false
  pub free : (h : Bool) → refused h σ ends ≡ false
  pub letters : (h : Bool) (b : ℕ) → lettered σ h b ≡ None
  pub angles : angled σ ≡ None
  pub hashes : hashed σ ≡ None

either : (h : Bool) → cond h false false ≡ false
either true = refl
either false = refl

pub ending : (ds : List Declaration) (n : List ℕ) (k : Content) (σ : Spot) (rest : List ℕ) → Closes ds n k σ rest → Ending ds n k σ
ending ds n k (outside es) rest x = absurd x
ending ds n k (opened es) rest x = absurd x
ending ds n k (titled es m) rest x = absurd x
ending ds n k (kids es m σ) rest x = absurd x
ending ds n k (mixed es m ns) rest x = absurd x
ending ds n k (wanted es m ns) rest x = absurd x
ending ds n k (starless es m []) rest x = record {
  loose = refl;
  goes = rw (x.0, x.1, x.2) refl;
  read = x.0;
  inside = refl;
  free = either;
  letters = (λ h b. refl);
  angles = refl;
  hashes = refl;
}
ending ds n k (starless es m (q ∷ qs)) rest x = absurd x
ending ds n k (grouped es m v) rest x = record {
  loose = refl;
  goes = rw (x.0, x.1, x.2) refl;
  read = x.0;
  inside = refl;
  free = either;
  letters = (λ h b. refl);
  angles = refl;
  hashes = refl;
}
ending ds n k (full es m v) rest x = record {
  loose = refl;
  goes = rw (x.0, x.1, x.2) refl;
  read = x.0;
  inside = refl;
  free = either;
  letters = (λ h b. refl);
  angles = refl;
  hashes = refl;
}

-- only '>' is taken there, behind white space, or a suffix where none was looked for
other : (X : Type 0) (t : Bool) → t ≡ false → t ≡ true → X
other X t is not = absurd (false≢true (sym is ∙ not))

end_spaced : (ds : List Declaration) (n : List ℕ) (k : Content) (σ : Spot) (rest : List ℕ) (b : ℕ) → Closes ds n k σ rest → (b == 62) ≡ false → Unsigned true σ b
end_spaced ds n k (outside es) rest b x e = absurd x
end_spaced ds n k (opened es) rest b x e = absurd x
end_spaced ds n k (titled es m) rest b x e = absurd x
end_spaced ds n k (kids es m σ) rest b x e = absurd x
end_spaced ds n k (mixed es m ns) rest b x e = absurd x
end_spaced ds n k (wanted es m ns) rest b x e = absurd x
end_spaced ds n k (starless es m []) rest b x e =
    ((λ i. refl), (λ i. refl), (λ i. refl), (λ i. refl), (λ i. refl), (λ i. refl), (λ i. refl), other _ (b == 62) e)
end_spaced ds n k (starless es m (q ∷ qs)) rest b x e = absurd x
end_spaced ds n k (grouped es m v) rest b x e =
    ((λ i. refl), (λ i. refl), (λ i. refl), (λ i. refl), (λ i. refl), (λ i. refl), (λ i. refl), other _ (b == 62) e)
end_spaced ds n k (full es m v) rest b x e =
    ((λ i. refl), (λ i. refl), (λ i. refl), (λ i. refl), (λ i. refl), (λ i. refl), (λ i. refl), other _ (b == 62) e)

no_mark : (b : ℕ) → is_mark b ≡ false → ((b == 63) ≡ false) × ((b == 43) ≡ false) × ((b == 42) ≡ false)
no_mark b e =
    let (a, more) = or_parts (b == 63) (b == 43 || b == 42) e in
    let (c, d) = or_parts (b == 43) (b == 42) more in
    (a, c, d)

end_alone : (ds : List Declaration) (n : List ℕ) (k : Content) (σ : Spot) (b : ℕ) (rest : List ℕ) → Closes ds n k σ (b ∷ rest) → (b == 62) ≡ false → Unsigned false σ b
end_alone ds n k (outside es) b rest x e = absurd x
end_alone ds n k (opened es) b rest x e = absurd x
end_alone ds n k (titled es m) b rest x e = absurd x
end_alone ds n k (kids es m σ) b rest x e = absurd x
end_alone ds n k (mixed es m ns) b rest x e = absurd x
end_alone ds n k (wanted es m ns) b rest x e = absurd x
end_alone ds n k (starless es m []) b rest x e =
    ((λ i. refl), (λ i. refl), (λ i. refl), (λ i. refl), other _ (b == 42) x.3, (λ i. refl), (λ i. refl), other _ (b == 62) e)
end_alone ds n k (starless es m (q ∷ qs)) b rest x e = absurd x
end_alone ds n k (grouped es m v) b rest x e =
    let (p, q, r) = no_mark b x.3 in
    ((λ i. refl), (λ i. refl), other _ (b == 63) p, other _ (b == 43) q, other _ (b == 42) r, (λ i. refl), (λ i. refl), other _ (b == 62) e)
end_alone ds n k (full es m v) b rest x e =
    ((λ i. refl), (λ i. refl), (λ i. refl), (λ i. refl), (λ i. refl), (λ i. refl), (λ i. refl), other _ (b == 62) e)

end_refused : (ds : List Declaration) (n : List ℕ) (k : Content) (σ : Spot) (h : Bool) (rest : List ℕ) → Ending ds n k σ → Past is_blank rest → Past (λ b. b == 62) rest
    → ((b : ℕ) (bs : List ℕ) → rest ≡ b ∷ bs → (b == 62) ≡ false → Unsigned h σ b) → Refuses σ h rest
end_refused ds n k σ h [] may past none u = may.inside
end_refused ds n k σ h (b ∷ bs) may past none u =
    byte_refused σ h b past (λ e. may.letters h b) (λ e. may.angles) may.hashes (unsigned h σ b (u b bs refl none))

end_behind : (ks : List (List ℕ)) (bytes : List ℕ) (ds : List Declaration) (n : List ℕ) (k : Content) (σ : Spot) (old new : Cursor) (t : Bool) → CursorAt ks bytes σ false old
    → Closes ds n k σ (rest_of old) → BlanksRead old t new → CursorAt ks bytes σ (cond t true false) new
end_behind ks bytes ds n k σ old new t r x blank = over_blanks ks bytes σ false t old new r (ending ds n k σ (rest_of old) x).loose blank

pub end_misses : (ks : List (List ℕ)) (bytes : List ℕ) (ds : List Declaration) (n : List ℕ) (k : Content) (σ : Spot) (old new : Cursor) (t : Bool) → CursorAt ks bytes σ false old
    → Closes ds n k σ (rest_of old) → BlanksRead old t new → Past (λ b. b == 62) (rest_of new) → Fails dtd ks bytes ds (placed NotDeclarations new.at)
end_misses ks bytes ds n k σ old new t r x blank none =
    subst (λ es. Fails dtd ks bytes es (placed NotDeclarations new.at)) may.read
    (byte_fails ks bytes σ (cond t true false) (rest_of new) new (end_behind ks bytes ds n k σ old new t r x blank) refl
    (end_refused ds n k σ (cond t true false) (rest_of new) may (blanks_past old new t blank) none (by t blank)))
  where
    may : Ending ds n k σ
    may = ending ds n k σ (rest_of old) x

    by : (t : Bool) → BlanksRead old t new → (b : ℕ) (bs : List ℕ) → rest_of new ≡ b ∷ bs → (b == 62) ≡ false → Unsigned (cond t true false) σ b
    by true y b bs e = end_spaced ds n k σ (rest_of old) b x
    by false y b bs e = end_alone ds n k σ b bs (subst (Closes ds n k σ) (sym (stayed_rest old new y.0) ∙ e) x)

-- a byte at the front, or another
pub front : (xs : List ℕ) (b : ℕ) → 1 ≤ length xs → get_or xs 0 0 ≡ b → xs ≡ b ∷ drop 1 xs
front [] b some e = absurd (omega arith)
front (x ∷ xs) b some e = ap (λ y. y ∷ xs) e

pub past_nothing : (xs : List ℕ) (b : ℕ) → length xs < 1 → Past (λ x. x == b) xs
past_nothing [] b none = tt
past_nothing (x ∷ xs) b none = absurd (omega arith)

pub past_other : (xs : List ℕ) (b : ℕ) → (get_or xs 0 0 ≡ b → ⊥) → Past (λ x. x == b) xs
past_other [] b other = tt
past_other (x ∷ xs) b other = by (x == b) refl
  where
    by : (t : Bool) → (x == b) ≡ t → (x == b) ≡ false
    by true e = absurd (other (eqb-true x b e))
    by false e = e

-- the declaration's parts are too many
pub end_fails : (ks : List (List ℕ)) (bytes : List ℕ) (ds : List Declaration) (n : List ℕ) (k : Content) (σ : Spot) (old new : Cursor) (t : Bool) (rest : List ℕ)
    (js : List (List ℕ)) → CursorAt ks bytes σ false old → Closes ds n k σ (rest_of old) → BlanksRead old t new → rest ≡ rest_of new → 1 ≤ length rest → get_or rest 0 0 ≡ 62
    → 256 < length (content_parts k js) → Fails dtd ks bytes ds (placed TooManyParts new.at)
end_fails ks bytes ds n k σ old new t rest js r x blank same some is big =
    subst (λ es. Fails dtd ks bytes es (placed TooManyParts new.at)) may.read
    (sign_fails ks bytes σ (cond t true false) ends (outside (ds ++ (made n k ∷ []))) TooManyParts (drop 1 rest) new at (may.free (cond t true false)) may.goes tt
    (sym same ∙ front rest 62 some is) tt (refl, ((λ never. never), beyond_parts)))
  where
    may : Ending ds n k σ
    may = ending ds n k σ (rest_of old) x

    at : CursorAt ks bytes σ (cond t true false) new
    at = end_behind ks bytes ds n k σ old new t r x blank

    beyond_parts : PartsBeyond (spelled σ ++ (ends ∷ []))
    beyond_parts =
        (ended_beyond ks bytes new.at σ (cond t true false) ds (made n k) at.at may.goes).0
        (subst (λ i. 256 < i) (content_number js (known_after [] (all_names (made n k))) k) big)

-- or it ends
names_behind : (ss : List Sign) → names_among (ss ++ (ends ∷ [])) ≡ names_among ss
names_behind [] = refl
names_behind (declared n ∷ ss) = ap (λ ns. n ∷ ns) (names_behind ss)
names_behind (inner (names n) ∷ ss) = ap (λ ns. n ∷ ns) (names_behind ss)
names_behind (s ∷ ss) = names_behind ss

begun_behind : (ss : List Sign) → begun dtd (ss ++ (ends ∷ [])) ≡ begun dtd ss
begun_behind [] = refl
begun_behind (element ∷ ss) = ap suc (begun_behind ss)
begun_behind (s ∷ ss) = begun_behind ss

declared_behind : (n : List ℕ) (ss : List Sign) → is_declared n (ss ++ (ends ∷ [])) ≡ is_declared n ss
declared_behind n [] = refl
declared_behind n (declared m ∷ ss) = ap (λ t. cond (bytes_eq m n) true t) (declared_behind n ss)
declared_behind n (s ∷ ss) = declared_behind n ss

pub elements_end : (ks : List (List ℕ)) (ss : List Sign) (e : Elements) → ElementsAre dtd ks ss e → ElementsAre dtd ks (ss ++ (ends ∷ [])) e
elements_end ks ss e r = record {
  names = r.names ∙ ap (known_after ks) (sym (names_behind ss));
  begun = r.begun ∙ sym (begun_behind ss);
  declared = (
    (λ n known. (
      (λ is. (r.declared.0 n known).0 (sym (declared_behind n ss) ∙ is)),
      (λ has. declared_behind n ss ∙ (r.declared.0 n known).1 has),
    )),
    r.declared.1,
  );
}

pub end_reads : (ks : List (List ℕ)) (bytes : List ℕ) (ds : List Declaration) (n : List ℕ) (k : Content) (σ : Spot) (old mid new : Cursor) (t : Bool) (rest : List ℕ) (e : Elements)
    (js : List (List ℕ)) → ReadTo ks bytes σ false old e → Closes ds n k σ (rest_of old) → BlanksRead old t mid → rest ≡ rest_of mid → 1 ≤ length rest → get_or rest 0 0 ≡ 62
    → Moved mid (take 1 (rest_of mid)) new → length (content_parts k js) ≤ 256
    → ReadTo ks bytes (outside (ds ++ (made n k ∷ []))) false new e × ((ns : List (List ℕ)) → length (content_parts k ns) ≤ 256)
end_reads ks bytes ds n k σ old mid new t rest e js r x blank same some is moved few = (
  record {
    cursor =
        over_sign ks bytes σ (cond t true false) ends (outside (ds ++ (made n k ∷ []))) mid new at (may.free (cond t true false)) may.goes tt
        (subst (λ g. Moved mid g new) (ap (take 1) (sym same ∙ front rest 62 some is)) moved) tt ((λ never. never), not_beyond);
    elements =
        subst (λ ss. ElementsAre dtd ks ss e)
        (sym (spelled_on ks bytes old.at σ false ends (outside (ds ++ (made n k ∷ []))) r.cursor.at may.goes)) (elements_end ks (spelled σ) e r.elements);
  },
  (λ ns. subst (λ i. i ≤ 256) (content_number js ns k) few),
)
  where
    may : Ending ds n k σ
    may = ending ds n k σ (rest_of old) x

    at : CursorAt ks bytes σ (cond t true false) mid
    at = end_behind ks bytes ds n k σ old mid t r.cursor x blank

    not_beyond : PartsBeyond (spelled σ ++ (ends ∷ [])) → ⊥
    not_beyond =
        (ended_beyond ks bytes mid.at σ (cond t true false) ds (made n k) at.at may.goes).1
        (subst (λ i. i ≤ 256) (content_number js (known_after [] (all_names (made n k))) k) few)
