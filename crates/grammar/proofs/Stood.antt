-- The signs that are read stand in the text. Assumes nothing.
use Rattle.std.proofs.Common.{◌≡◌, ℕ, suc, ◌+◌, ◌<◌, Bool, true, false, cond, ◌==◌, List, [], ◌∷◌, ◌++◌, length, take, drop, Some, None, Option, is_some, sym, refl, ap, ◌∙◌, subst, arith, length-append}
use Rattle.std.proofs.lemmas.List.{append_assoc, append-nil, take-append-drop, take_at, length-take-le}
use Rattle.std.proofs.lemmas.Bool.{false≢true}
use Rattle.grammar.specs.Bytes.{is_blank, begins_name, goes_in_name, is_char, IsSomeSpace, NameEnds}
use Rattle.grammar.specs.Words.Sign.{names, opens}
use Rattle.grammar.specs.Lists.State.{want, got}
use Rattle.grammar.specs.Notations.Notation.{dtd}
use Rattle.grammar.specs.Declarations.{Declaration, Sign, Token, TokensOf, content_signs, declaration_signs, all_signs, sign_bytes, GapInside, GapBefore, signs_of, written}
use Rattle.grammar.specs.Declarations.Sign.{element, declared, inner, ends}
use Rattle.grammar.specs.Faults.{EndsWell, SignStands}
use Rattle.grammar.specs.Machine.{Spot, spelled, SignFits, go, goes, spaced, tight, Named, name_before, name_sign, name_after, Fixed, word_before, word_sign, Phase, sign_at, into, refused, signed, lettered, angled, hashed, feed_at, word_on, feed, feeds, first, Stops, signs_by, is_outside}
use Rattle.grammar.specs.Machine.Spot.{outside, opened, titled, kids, mixed, wanted, starless, grouped, full}
use Rattle.grammar.specs.Machine.Named.{title, kid, mate}
use Rattle.grammar.specs.Machine.Fixed.{the_element, the_empty, the_any, the_pcdata}
use Rattle.grammar.specs.Machine.Phase.{at, naming, word, angle, bang, bar, inside, dash, dashes}
use Rattle.grammar.specs.Progress.{Ends}
use Rattle.grammar.proofs.Signs.{Good, Sound, go_sound, SignsFit, SignsFit-parts, no_spot, goes_none, all_go, all_fit}
use Rattle.grammar.proofs.Spelt.{token, Base, extend, Spelt, Leads, feed_leads, start_spelt, feeds_none, signs_of-append, written-append, longer, name_goes, name_fits}
use Rattle.grammar.proofs.Fed.{feeds_on, same_some, suffix_gap, blank_no_name}
use Rattle.grammar.proofs.Text.{led}
use Rattle.grammar.proofs.Places.{goes_on, GapsFit-parts, base_begins, elsewhere, first_spot}
use Rattle.grammar.proofs.Order.{is_byte, byte_of, no_name_sign, no_sign, name_byte, end_of, end_is, name_spells, word_spells}

-- what ends a name
abbrev pub is_name : Sign → Bool
is_name (declared n) = true
is_name (inner (names n)) = true
is_name s = false

ends_well_other : (s : Sign) (rest : List ℕ) → is_name s ≡ false → EndsWell s rest
ends_well_other (declared n) rest e = absurd (false≢true (sym e))
ends_well_other (inner (names n)) rest e = absurd (false≢true (sym e))
ends_well_other s rest e = tt

ends_at : (s : Sign) (b : ℕ) (rest : List ℕ) → goes_in_name b ≡ false → EndsWell s (b ∷ rest)
ends_at (declared n) b rest e = e
ends_at (inner (names n)) b rest e = e
ends_at s b rest e = tt

ends_space : (s : Sign) (gap rest : List ℕ) → IsSomeSpace gap → EndsWell s (gap ++ rest)
ends_space s [] rest h = absurd h
ends_space s (b ∷ gap) rest h = ends_at s b (gap ++ rest) (blank_no_name b h.0)

name_or_sign : (b : ℕ) (v : Sign) → sign_at b ≡ Some v → goes_in_name b ≡ false
name_or_sign b v e = either (goes_in_name b) refl
  where
    either : (t : Bool) → goes_in_name b ≡ t → t ≡ false
    either true k = no_sign v (sym (no_name_sign b k) ∙ e)
    either false k = refl

ends_sign : (s v : Sign) (rest : List ℕ) → is_byte v ≡ true → EndsWell s (sign_bytes dtd v ++ rest)
ends_sign s v rest e =
    let (b, is, k) = byte_of v e in
    subst (λ x. EndsWell s (x ++ rest)) (sym is) (ends_at s b rest (name_or_sign b v k))

-- behind a name: another token
named_spot : (σ τ : Spot) (m : List ℕ) → go σ (inner (names m)) ≡ Some τ → (a : Named) × (name_after a m ≡ τ) × (spaced (name_after a m) ≡ false) × (is_outside (name_after a m) ≡ false)
named_spot (kids ds n (want o l)) τ m e = (kid ds n o l, same_some _ τ e, refl, refl)
named_spot (kids ds n (got o l w)) τ m e = no_spot τ e
named_spot (wanted ds n ns) τ m e = (mate ds n ns, same_some _ τ e, refl, refl)
named_spot σ τ m e = no_spot τ e

behind_inner : (m : List ℕ) (v : Sign) (σ τ π : Spot) (gap rest : List ℕ) → go σ (inner (names m)) ≡ Some τ → go τ v ≡ Some π → GapInside dtd v gap → SignFits v
    → EndsWell (inner (names m)) (gap ++ (sign_bytes dtd v ++ rest))
behind_inner m v σ τ π [] rest e k h fit =
    let (a, is, close, in_it) = named_spot σ τ m e in
    ends_sign (inner (names m)) v rest (name_byte a m v π (ap (λ x. go x v) is ∙ k) close fit)
behind_inner m v σ τ π (b ∷ gap) rest e k h fit =
    let (a, is, close, in_it) = named_spot σ τ m e in
    let (suf, all) = suffix_gap v b gap (elsewhere τ v π (ap is_outside (sym is) ∙ in_it) k) h in
    ends_at (inner (names m)) b (gap ++ (sign_bytes dtd v ++ rest)) (blank_no_name b all.0)

behind_token : (t v : Sign) (σ τ π : Spot) (gap rest : List ℕ) → go σ t ≡ Some τ → go τ v ≡ Some π → GapBefore dtd t v gap → SignFits v
    → EndsWell t (gap ++ (sign_bytes dtd v ++ rest))
behind_token (declared n) v σ τ π gap rest e k h fit = ends_space (declared n) gap (sign_bytes dtd v ++ rest) h
behind_token (inner (names m)) v σ τ π gap rest e k h fit = behind_inner m v σ τ π gap rest e k h fit
behind_token t v σ τ π gap rest e k h fit = tt

tokens_well : (us : List Token) (t v : Token) (vs : List Token) (ds : List Declaration) (rest : List ℕ) → TokensOf dtd (us ++ (t ∷ v ∷ vs)) ds
    → EndsWell t.sign (v.gap ++ (sign_bytes dtd v.sign ++ rest))
tokens_well us t v vs ds rest (read, fits, are) =
    went (goes (signs_of us) first_spot) refl
    (sym (goes_on (signs_of us) (t.sign ∷ v.sign ∷ signs_of vs) first_spot) ∙ ap (λ xs. goes xs first_spot) (sym (signs_of-append us (t ∷ v ∷ vs)) ∙ read) ∙ all_go ds [] are)
  where
    gap : GapBefore dtd t.sign v.sign v.gap
    gap = (GapsFit-parts ends us (t ∷ v ∷ vs) fits).1.1.0

    fit : SignFits v.sign
    fit = (SignsFit-parts (signs_of us) (t.sign ∷ v.sign ∷ signs_of vs) (subst SignsFit (sym read ∙ signs_of-append us (t ∷ v ∷ vs)) (all_fit ds are))).1.1.0

    third : (σ τ : Spot) → go σ t.sign ≡ Some τ → (o : Option Spot) → go τ v.sign ≡ o → goes (signs_of vs) o ≡ Some (outside ds) → EndsWell t.sign (v.gap ++ (sign_bytes dtd v.sign ++ rest))
    third σ τ k None l r = no_spot (outside ds) (sym (goes_none (signs_of vs)) ∙ r)
    third σ τ k (Some π) l r = behind_token t.sign v.sign σ τ π v.gap rest k l gap fit

    second : (σ : Spot) → (o : Option Spot) → go σ t.sign ≡ o → goes (v.sign ∷ signs_of vs) o ≡ Some (outside ds) → EndsWell t.sign (v.gap ++ (sign_bytes dtd v.sign ++ rest))
    second σ None k r = no_spot (outside ds) (sym (goes_none (signs_of vs)) ∙ r)
    second σ (Some τ) k r = third σ τ k (go τ v.sign) refl r

    went : (o : Option Spot) → goes (signs_of us) first_spot ≡ o → goes (t.sign ∷ v.sign ∷ signs_of vs) o ≡ Some (outside ds) → EndsWell t.sign (v.gap ++ (sign_bytes dtd v.sign ++ rest))
    went None e r = no_spot (outside ds) (sym (goes_none (signs_of vs)) ∙ r)
    went (Some σ) e r = second σ (go σ t.sign) refl r

-- a token among those that were read
split_at : (ss : List Sign) (s : Sign) (more : List Sign) (ts : List Token) → signs_of ts ≡ (ss ++ (s ∷ [])) ++ more
    → (us : List Token) × (t : Token) × (vs : List Token) × (ts ≡ us ++ (t ∷ vs)) × (signs_of us ≡ ss) × (t.sign ≡ s)
split_at [] s more [] e = absurd (false≢true (ap (λ xs. elim xs [ [] ↦ false | y ∷ ys ↦ true ]) e))
split_at [] s more (t ∷ ts) e = ([], t, ts, refl, refl, ap (λ xs. elim xs [ [] ↦ t.sign | y ∷ ys ↦ y ]) e)
split_at (r ∷ ss) s more [] e = absurd (false≢true (ap (λ xs. elim xs [ [] ↦ false | y ∷ ys ↦ true ]) e))
split_at (r ∷ ss) s more (t ∷ ts) e =
    let tail : signs_of ts ≡ (ss ++ (s ∷ [])) ++ more = ap (λ xs. elim xs [ [] ↦ signs_of ts | y ∷ ys ↦ ys ]) e in
    let head : t.sign ≡ r = ap (λ xs. elim xs [ [] ↦ t.sign | y ∷ ys ↦ y ]) e in
    let (us, u, vs, k, read, is) = split_at ss s more ts tail in
    (t ∷ us, u, vs, ap (λ xs. t ∷ xs) k, ap (λ x. x ∷ signs_of us) head ∙ ap (λ xs. r ∷ xs) read, is)

well : (us : List Token) (t : Token) (vs m : List Token) (ds : List Declaration) (rest : List ℕ) → TokensOf dtd (us ++ (t ∷ (vs ++ m))) ds
    → EndsWell (end_of (signs_of (us ++ (t ∷ vs)))) rest → EndsWell t.sign (written dtd vs ++ rest)
well us t [] m ds rest of h = subst (λ x. EndsWell x rest) (ap end_of (signs_of-append us (t ∷ [])) ∙ end_is (signs_of us) t.sign) h
well us t (v ∷ vs) m ds rest of h =
    let same : v.gap ++ (sign_bytes dtd v.sign ++ (written dtd vs ++ rest)) ≡ written dtd (v ∷ vs) ++ rest = simp append_assoc in
    subst (EndsWell t.sign) same (tokens_well us t v (vs ++ m) ds (written dtd vs ++ rest) of)

stood : (bytes : List ℕ) (ts : List Token) (σ : Spot) (rest : List ℕ) → Base ts σ → bytes ≡ written dtd ts ++ rest → EndsWell (end_of (signs_of ts)) rest
    → (ss : List Sign) (s : Sign) (more : List Sign) → signs_of ts ≡ (ss ++ (s ∷ [])) ++ more → (q : ℕ) × SignStands dtd bytes q ss s
stood bytes ts σ rest base all last ss s more e =
    let (m, ds, of) = base_begins ts σ base in
    let (us, t, vs, parts, read, is) = split_at ss s more ts e in
    let tokens : ts ++ m ≡ us ++ (t ∷ (vs ++ m)) = ap (λ x. x ++ m) parts ∙ append_assoc us (t ∷ vs) m in
    let of2 : TokensOf dtd (us ++ (t ∷ (vs ++ m))) ds = subst (λ x. TokensOf dtd x ds) tokens of in
    let whole : bytes ≡ (written dtd us ++ t.gap) ++ (sign_bytes dtd t.sign ++ (written dtd vs ++ rest)) =
    all ∙ ap (λ x. written dtd x ++ rest) parts ∙ ap (λ x. x ++ rest) (written-append us (t ∷ vs)) ∙ simp append_assoc in (
      length (written dtd us ++ t.gap),
      subst (λ x. SignStands dtd bytes (length (written dtd us ++ t.gap)) ss x) is
          (us, t.gap, written dtd vs ++ rest, read, refl, whole, well us t vs m ds rest of2 (subst (λ x. EndsWell (end_of (signs_of x)) rest) parts last), vs ++ m, ds, of2),
    )

-- right behind a sign that is no name
abbrev FreshEnd : Phase → Type 0
FreshEnd (at σ true) = Unit {0}
FreshEnd (at σ false) = is_name (end_of (spelled σ)) ≡ false
FreshEnd φ = Unit {0}

abbrev FreshO : Option Phase → Type 0
FreshO None = Unit {0}
FreshO (Some φ) = FreshEnd φ

cond_fresh : (t : Bool) (x y : Option Phase) → FreshO x → FreshO y → FreshO (cond t x y)
cond_fresh true x y h k = h
cond_fresh false x y h k = k

abbrev NoName : Option Sign → Type 0
NoName None = Unit {0}
NoName (Some s) = is_name s ≡ false

cond_no_name : (t : Bool) (x y : Option Sign) → NoName x → NoName y → NoName (cond t x y)
cond_no_name true x y h k = h
cond_no_name false x y h k = k

sign_no_name : (b : ℕ) → NoName (sign_at b)
sign_no_name b =
    cond_no_name (b == 40) _ _ refl (cond_no_name (b == 41) _ _ refl (cond_no_name (b == 63) _ _ refl (cond_no_name (b == 43) _ _ refl
    (cond_no_name (b == 42) _ _ refl (cond_no_name (b == 124) _ _ refl (cond_no_name (b == 44) _ _ refl (cond_no_name (b == 62) _ _ refl tt)))))))

into_fresh : (σ : Spot) (s : Sign) (o : Option Spot) → Sound σ s o → is_name s ≡ false → FreshO (into o)
into_fresh σ s None h e = tt
into_fresh σ s (Some τ) h e = ap is_name (ap end_of h.0 ∙ end_is (spelled σ) s) ∙ e

signed_fresh : (g : Bool) (σ : Spot) (o : Option Sign) → Good σ → NoName o → FreshO (signed g σ o)
signed_fresh g σ None h e = tt
signed_fresh g σ (Some s) h e = cond_fresh (refused g σ s) None _ tt (into_fresh σ s (go σ s) (go_sound σ s h) e)

lettered_fresh : (σ : Spot) (g : Bool) (b : ℕ) → FreshO (lettered σ g b)
lettered_fresh (opened ds) g b = cond_fresh g _ None tt tt
lettered_fresh (titled ds n) g b = cond_fresh g _ None (cond_fresh (b == 69) _ _ tt (cond_fresh (b == 65) _ None tt tt)) tt
lettered_fresh (kids ds n (want o l)) g b = tt
lettered_fresh (kids ds n (got o l w)) g b = tt
lettered_fresh (wanted ds n ns) g b = tt
lettered_fresh (outside ds) g b = tt
lettered_fresh (mixed ds n ns) g b = tt
lettered_fresh (starless ds n ns) g b = tt
lettered_fresh (grouped ds n v) g b = tt
lettered_fresh (full ds n c) g b = tt

angled_fresh : (σ : Spot) → FreshO (angled σ)
angled_fresh (outside ds) = tt
angled_fresh σ = tt

hashed_fresh : (σ : Spot) → FreshO (hashed σ)
hashed_fresh (kids ds n (want [] None)) = tt
hashed_fresh (kids ds n (want [] (Some x))) = tt
hashed_fresh (kids ds n (want (k ∷ o) l)) = tt
hashed_fresh (kids ds n (got o l w)) = tt
hashed_fresh σ = tt

at_fresh : (σ : Spot) (g : Bool) (b : ℕ) → Good σ → FreshO (feed_at σ g b)
at_fresh σ g b h =
    cond_fresh (is_blank b) _ _ (cond_fresh (tight σ) None (Some (at σ true)) tt tt)
    (cond_fresh (begins_name b) _ _ (lettered_fresh σ g b)
    (cond_fresh (b == 60) _ _ (angled_fresh σ) (cond_fresh (b == 35) _ _ (hashed_fresh σ) (signed_fresh g σ (sign_at b) h (sign_no_name b)))))

word_no_name : (f : Fixed) → is_name (word_sign f) ≡ false
word_no_name (the_element ds) = refl
word_no_name (the_empty ds n) = refl
word_no_name (the_any ds n) = refl
word_no_name (the_pcdata ds n) = refl

word_fresh : (f : Fixed) (left : List ℕ) → Good (word_before f) → FreshO (Some (word_on f left))
word_fresh f [] h = ap is_name (ap end_of (word_spells f h) ∙ end_is (spelled (word_before f)) (word_sign f)) ∙ word_no_name f
word_fresh f (c ∷ left) h = tt

feed_fresh : (p : List ℕ) (φ : Phase) (b : ℕ) → Spelt p φ → FreshO (feed φ b)
feed_fresh p (at σ g) b (ts, gap, base, h, t, w) = at_fresh σ g b base.0
feed_fresh p (naming a n) b (ts, gap, base, h, is, w) = cond_fresh (goes_in_name b) _ _ tt (at_fresh (name_after a n) false b (name_spells a n base.0).1)
feed_fresh p (word f []) b h = tt
feed_fresh p (word f (c ∷ left)) b (ts, gap, done, base, fit, is, w) = cond_fresh (b == c) _ _ (word_fresh f left base.0) tt
feed_fresh p (angle ds) b h = cond_fresh (b == 33) _ _ tt tt
feed_fresh p (bang ds) b h = cond_fresh (b == 69) _ _ tt (cond_fresh (b == 45) _ _ tt tt)
feed_fresh p (bar ds) b h = cond_fresh (b == 45) _ _ tt tt
feed_fresh p (inside ds) b h = cond_fresh (b == 45) _ _ tt (cond_fresh (is_char b) _ _ tt tt)
feed_fresh p (dash ds) b h = cond_fresh (b == 45) _ _ tt (cond_fresh (is_char b) _ _ tt tt)
feed_fresh p (dashes ds) b h = cond_fresh (b == 62) _ _ tt tt

feeds_fresh : (bs p : List ℕ) (o : Option Phase) → Leads p o → FreshO o → FreshO (feeds bs o)
feeds_fresh [] p o h k = k
feeds_fresh (b ∷ bs) p None h k = rw feeds_none tt
feeds_fresh (b ∷ bs) p (Some φ) h k = feeds_fresh bs (p ++ (b ∷ [])) (feed φ b) (feed_leads p φ b h) (feed_fresh p φ b h)

-- the tokens of a phase, the last of them whole
end_append : (xs : List Sign) (y : Sign) (ys : List Sign) → end_of (xs ++ (y ∷ ys)) ≡ end_of (y ∷ ys)
end_append [] y ys = refl
end_append (x ∷ []) y ys = refl
end_append (x ∷ z ∷ xs) y ys = end_append (z ∷ xs) y ys

all_end : (ds : List Declaration) → is_name (end_of (all_signs ds)) ≡ false
all_end [] = refl
all_end (d ∷ []) =
    ap (λ xs. is_name (end_of xs)) (append-nil (declaration_signs d)) ∙ ap is_name (end_is (element ∷ declared d.name ∷ content_signs d.content) ends)
all_end (d ∷ e ∷ ds) = ap is_name (end_append (declaration_signs d) element _) ∙ all_end (e ∷ ds)

abbrev Tokened : List ℕ → Phase → List ℕ → Type 0
Tokened p φ rest =
    (ts : List Token) × (tail : List ℕ) × (σ : Spot) × Base ts σ × (signs_of ts ≡ signs_by φ) × (p ≡ written dtd ts ++ tail) × EndsWell (end_of (signs_of ts)) (tail ++ rest)

outer : (p tail rest : List ℕ) (ts : List Token) (ds : List Declaration) → Base ts (outside ds) → p ≡ written dtd ts ++ tail
    → (signs_of ts ≡ all_signs ds) × (p ≡ written dtd ts ++ tail) × EndsWell (end_of (signs_of ts)) (tail ++ rest)
outer p tail rest ts ds base w =
    (base.1, w, ends_well_other (end_of (signs_of ts)) (tail ++ rest) (ap (λ x. is_name (end_of x)) base.1 ∙ all_end ds))

spaced_out : (s : Sign) (gap done rest : List ℕ) → IsSomeSpace gap → EndsWell s ((gap ++ done) ++ rest)
spaced_out s gap done rest h = subst (EndsWell s) (sym (append_assoc gap done rest)) (ends_space s gap (done ++ rest) h)

name_ended : (a : Named) (n rest : List ℕ) → NameEnds rest → EndsWell (name_sign a n) rest
name_ended (title ds) n rest h = h
name_ended (kid ds m o l) n rest h = h
name_ended (mate ds m ns) n rest h = h

tokened : (p : List ℕ) (φ : Phase) (rest : List ℕ) → Spelt p φ → FreshEnd φ → Ends φ rest → Tokened p φ rest
tokened p (at (outside ds) g) rest (ts, gap, base, h, t, w) f e =
    let (read, all, well) = outer p gap rest ts ds base w in (ts, gap, outside ds, base, read, all, well)
tokened p (at σ true) rest (ts, gap, base, h, t, w) f e = (ts, gap, σ, base, base.1, w, ends_space (end_of (signs_of ts)) gap rest h)
tokened p (at σ false) rest (ts, gap, base, h, t, w) f e =
    (ts, gap, σ, base, base.1, w, ends_well_other (end_of (signs_of ts)) (gap ++ rest) (ap (λ x. is_name (end_of x)) base.1 ∙ f))
tokened p (naming a n) rest (ts, gap, base, h, is, w) f e =
    let (fits, fit, same) = name_fits a n gap is h in (
      ts ++ (token gap (name_sign a n) ∷ []),
      [],
      name_after a n,
      extend ts gap (name_sign a n) (name_before a) (name_after a n) base fit fits (name_goes a n),
      signs_of-append ts (token gap (name_sign a n) ∷ []) ∙ ap (λ ss. ss ++ (name_sign a n ∷ [])) base.1 ∙ sym (name_spells a n base.0).0,
      w ∙ ap (λ x. written dtd ts ++ (gap ++ x)) (sym same) ∙ sym (longer ts gap (name_sign a n)) ∙ sym (append-nil _),
      subst (λ x. EndsWell x rest) (sym (ap end_of (signs_of-append ts (token gap (name_sign a n) ∷ [])) ∙ end_is (signs_of ts) (name_sign a n))) (name_ended a n rest e),
    )
tokened p (word f []) rest h k e = absurd h
tokened p (word (the_element ds) (c ∷ left)) rest (ts, gap, done, base, fit, is, w) f e =
    let (read, all, well) = outer p (gap ++ done) rest ts ds base w in (ts, gap ++ done, outside ds, base, read, all, well)
tokened p (word (the_empty ds n) (c ∷ left)) rest (ts, gap, done, base, fit, is, w) f e =
    (ts, gap ++ done, titled ds n, base, base.1, w, spaced_out (end_of (signs_of ts)) gap done rest (fit.0 refl))
tokened p (word (the_any ds n) (c ∷ left)) rest (ts, gap, done, base, fit, is, w) f e =
    (ts, gap ++ done, titled ds n, base, base.1, w, spaced_out (end_of (signs_of ts)) gap done rest (fit.0 refl))
tokened p (word (the_pcdata ds n) (c ∷ left)) rest (ts, gap, done, base, fit, is, w) f e = (
  ts,
  gap ++ done,
  kids ds n (want [] None),
  base,
  base.1,
  w,
  ends_well_other (end_of (signs_of ts)) ((gap ++ done) ++ rest)
      (ap (λ x. is_name (end_of x)) base.1 ∙ ap is_name (end_append (all_signs ds) element (declared n ∷ inner opens ∷ []))),
)
tokened p (angle ds) rest (ts, gap, base, h, w) f e = let (read, all, well) = outer p _ rest ts ds base w in (ts, _, outside ds, base, read, all, well)
tokened p (bang ds) rest (ts, gap, base, h, w) f e = let (read, all, well) = outer p _ rest ts ds base w in (ts, _, outside ds, base, read, all, well)
tokened p (bar ds) rest (ts, gap, base, h, w) f e = let (read, all, well) = outer p _ rest ts ds base w in (ts, _, outside ds, base, read, all, well)
tokened p (inside ds) rest (ts, gap, us, base, h, are, w) f e = let (read, all, well) = outer p _ rest ts ds base w in (ts, _, outside ds, base, read, all, well)
tokened p (dash ds) rest (ts, gap, us, base, h, are, w) f e = let (read, all, well) = outer p _ rest ts ds base w in (ts, _, outside ds, base, read, all, well)
tokened p (dashes ds) rest (ts, gap, us, base, h, are, w) f e = let (read, all, well) = outer p _ rest ts ds base w in (ts, _, outside ds, base, read, all, well)

-- where the machine stops a name has ended
next_refused : (bytes : List ℕ) (n : ℕ) (φ : Phase) (b : ℕ) (rest : List ℕ) → Stops bytes n → feeds (take n bytes) first ≡ Some φ → drop n bytes ≡ b ∷ rest → feed φ b ≡ None
next_refused bytes n φ b rest (le, some, stop) e d =
    let whole : bytes ≡ (take n bytes ++ (b ∷ [])) ++ rest = sym (take-append-drop n bytes) ∙ ap (λ x. take n bytes ++ x) d ∙ sym (append_assoc (take n bytes) (b ∷ []) rest) in
    let size : length (take n bytes ++ (b ∷ [])) ≡ suc n = length-append (take n bytes) (b ∷ []) ∙ ap (λ x. x + 1) (length-take-le n bytes le) ∙ omega arith in
    let long : length bytes ≡ length (take n bytes ++ (b ∷ [])) + length rest = ap length whole ∙ length-append (take n bytes ++ (b ∷ [])) rest in
    let cut : take (suc n) bytes ≡ take n bytes ++ (b ∷ []) = ap (take (suc n)) whole ∙ take_at (take n bytes ++ (b ∷ [])) rest (suc n) size in
    let less : n < length bytes = omega arith in
    sym (ap (feeds (b ∷ [])) e) ∙ sym (feeds_on (take n bytes) (b ∷ []) first) ∙ ap (λ x. feeds x first) (sym cut) ∙ stop less

name_stopped : (a : Named) (n : List ℕ) (b : ℕ) → feed (naming a n) b ≡ None → goes_in_name b ≡ false
name_stopped a n b e = either (goes_in_name b) refl
  where
    either : (t : Bool) → goes_in_name b ≡ t → t ≡ false
    either true k =
        let one : feed (naming a n) b ≡ Some (naming a (n ++ (b ∷ []))) = rw k refl in
        absurd (false≢true (ap is_some (sym e ∙ one)))
    either false k = refl

ends_here : (φ : Phase) (left : List ℕ) → ((b : ℕ) (rest : List ℕ) → left ≡ b ∷ rest → feed φ b ≡ None) → Ends φ left
ends_here (naming a n) [] h = tt
ends_here (naming a n) (b ∷ rest) h = name_stopped a n b (h b rest refl)
ends_here (at σ g) left h = tt
ends_here (word f xs) left h = tt
ends_here (angle ds) left h = tt
ends_here (bang ds) left h = tt
ends_here (bar ds) left h = tt
ends_here (inside ds) left h = tt
ends_here (dash ds) left h = tt
ends_here (dashes ds) left h = tt

stop_tokens : (bytes : List ℕ) (n : ℕ) (φ : Phase) → Stops bytes n → feeds (take n bytes) first ≡ Some φ → Tokened (take n bytes) φ (drop n bytes)
stop_tokens bytes n φ stops e =
    tokened (take n bytes) φ (drop n bytes) (led (take n bytes) (Some φ) e) (subst FreshO e (feeds_fresh (take n bytes) [] first start_spelt refl))
    (ends_here φ (drop n bytes) (λ b rest d. next_refused bytes n φ b rest stops e d))

pub signs_stood : (bytes : List ℕ) (n : ℕ) (φ : Phase) → Stops bytes n → feeds (take n bytes) first ≡ Some φ
    → SignsFit (signs_by φ) × ((ss : List Sign) (s : Sign) (more : List Sign) → signs_by φ ≡ (ss ++ (s ∷ [])) ++ more → (q : ℕ) × SignStands dtd bytes q ss s)
signs_stood bytes n φ stops e =
    let (ts, tail, σ, base, read, w, last) = stop_tokens bytes n φ stops e in
    let whole : bytes ≡ written dtd ts ++ (tail ++ drop n bytes) =
    sym (take-append-drop n bytes) ∙ ap (λ x. x ++ drop n bytes) w ∙ append_assoc (written dtd ts) tail (drop n bytes) in
    (subst SignsFit read base.3, λ ss s more k. stood bytes ts σ (tail ++ drop n bytes) base whole last ss s more (read ∙ k))
