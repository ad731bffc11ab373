-- What the tokens spell is read, and each phase can be ended. Assumes nothing.
use Rattle.std.proofs.Common.{◌≡◌, ℕ, ◌⊎◌, inl, inr, Bool, true, false, ◌&&◌, ◌==◌, List, [], ◌∷◌, ◌++◌, Some, None, Option, sym, refl, ap, ◌∙◌, subst, arith}
use Rattle.std.specs.Prelude.{codes}
use Rattle.std.proofs.lemmas.List.{append_assoc, append-nil}
use Rattle.std.proofs.lemmas.Bool.{false≢true}
use Rattle.std.proofs.lemmas.Bool.Decides.{nat_tests}
use Rattle.grammar.specs.Bytes.{is_blank, begins_name, goes_in_name, Each, IsName, IsSpace, IsSomeSpace, Bit, AreBits, bits, Between, IsPiece, piece, pieces, ArePieces, IsGap}
use Rattle.grammar.specs.Bytes.Bit.{plain, dashed}
use Rattle.grammar.specs.Bytes.Between.{blank, remark}
use Rattle.grammar.specs.Words.{Words}
use Rattle.grammar.specs.Words.Words.{name, group}
use Rattle.grammar.specs.Words.Join.{alt, next, both}
use Rattle.grammar.specs.Words.Mark.{optional, repeated, any}
use Rattle.grammar.specs.Words.Sign.{names, empties, opens, closes, suffix, separator}
use Rattle.grammar.specs.Lists.{Left, put}
use Rattle.grammar.specs.Lists.State.{want, got}
use Rattle.grammar.specs.Notations.Notation.{dtd}
use Rattle.grammar.specs.Declarations.{Content, Declaration, Sign, Token, sign_bytes, GapInside, GapBefore, GapsFit, signs_of, written}
use Rattle.grammar.specs.Declarations.Content.{none, text, children}
use Rattle.grammar.specs.Declarations.Sign.{element, declared, empty_word, any_word, pcdata_word, inner, ends}
use Rattle.grammar.specs.Machine.{is_outside, Spot, SignFits, Stands, made, ended, go, goes, spaced, tight, Named, name_after, Fixed, word_after, Phase, sign_at, is_suffix, refused, lettered, feed_at, feed, feeds}
use Rattle.grammar.specs.Machine.Spot.{outside, opened, titled, kids, mixed, wanted, starless, grouped, full}
use Rattle.grammar.specs.Machine.Named.{title, kid, mate}
use Rattle.grammar.specs.Machine.Fixed.{the_any}
use Rattle.grammar.specs.Machine.Phase.{at, naming, word, angle, bang, bar, inside, dash, dashes}
use Rattle.grammar.proofs.Signs.{Good, Sound, wants_space, go_sound, SignsFit, no_spot, goes_none}
use Rattle.grammar.proofs.Spelt.{no_cons, is_element, Spelt}

-- bytes
pub blank_no_name : (b : ℕ) → is_blank b ≡ true → goes_in_name b ≡ false
blank_no_name b e = grind (arith, nat_tests)

name_no_blank : (b : ℕ) → begins_name b ≡ true → is_blank b ≡ false
name_no_blank b e = grind (arith, nat_tests)

pub feeds_on : (xs ys : List ℕ) (φ : Option Phase) → feeds (xs ++ ys) φ ≡ feeds ys (feeds xs φ)
feeds_on [] ys φ = refl
feeds_on (x ∷ xs) ys None = feeds_on xs ys None
feeds_on (x ∷ xs) ys (Some φ) = feeds_on xs ys (feed φ x)

pub same_some : (σ τ : Spot) → Some σ ≡ Some τ → σ ≡ τ
same_some σ τ e = ap (λ x. elim x [ None ↦ σ | Some ρ ↦ ρ ]) e

-- a letter is taken
abbrev takes_letter : Spot → Bool → Bool
takes_letter (opened ds) h = h
takes_letter (titled ds n) h = h
takes_letter (kids ds n (want o l)) h = true
takes_letter (kids ds n (got o l w)) h = false
takes_letter (wanted ds n ns) h = true
takes_letter σ h = false

no_letter : (a : Named) (n : List ℕ) → takes_letter (name_after a n) false ≡ false
no_letter (title ds) n = refl
no_letter (kid ds m o l) n = refl
no_letter (mate ds m ns) n = refl

pub feed_stands : (φ : Phase) (σ : Spot) (h : Bool) (b : ℕ) → Stands φ σ h → (goes_in_name b ≡ false) ⊎ (takes_letter σ h ≡ true) → feed φ b ≡ feed_at σ h b
feed_stands (at τ g) σ h b st k = ap (λ x. feed_at x g b) st.0 ∙ ap (λ x. feed_at σ x b) st.1
feed_stands (naming a n) σ h b st (inl e) =
    let one : feed (naming a n) b ≡ feed_at (name_after a n) false b = rw e refl in
    one ∙ ap (λ x. feed_at x false b) st.0 ∙ ap (λ x. feed_at σ x b) (sym st.1)
feed_stands (naming a n) σ h b st (inr e) =
    absurd (false≢true (sym (no_letter a n) ∙ ap (λ x. takes_letter x false) st.0 ∙ ap (takes_letter σ) (sym st.1) ∙ e))
feed_stands (word f left) σ h b st k = absurd st
feed_stands (angle ds) σ h b st k = absurd st
feed_stands (bang ds) σ h b st k = absurd st
feed_stands (bar ds) σ h b st k = absurd st
feed_stands (inside ds) σ h b st k = absurd st
feed_stands (dash ds) σ h b st k = absurd st
feed_stands (dashes ds) σ h b st k = absurd st

abbrev pub Fed : Phase → List ℕ → Spot → Type 0
Fed φ bs τ = (ψ : Phase) × (feeds bs (Some φ) ≡ Some ψ) × Stands ψ τ false

-- white space
blank_fed : (φ : Phase) (σ : Spot) (h : Bool) (b : ℕ) → Stands φ σ h → is_blank b ≡ true → tight σ ≡ false → feed φ b ≡ Some (at σ true)
blank_fed φ σ h b st e t =
    let one : feed_at σ h b ≡ Some (at σ true) = rw (e, t) refl in
    feed_stands φ σ h b st (inl (blank_no_name b e)) ∙ one

blanks_on : (g : List ℕ) (σ : Spot) → IsSpace g → tight σ ≡ false → feeds g (Some (at σ true)) ≡ Some (at σ true)
blanks_on [] σ h t = refl
blanks_on (b ∷ g) σ h t = ap (feeds g) (blank_fed (at σ true) σ true b (refl, refl) h.0 t) ∙ blanks_on g σ h.1 t

pub blanks_fed : (b : ℕ) (g : List ℕ) (φ : Phase) (σ : Spot) (h : Bool) → Stands φ σ h → IsSpace (b ∷ g) → tight σ ≡ false → feeds (b ∷ g) (Some φ) ≡ Some (at σ true)
blanks_fed b g φ σ h st e t = ap (feeds g) (blank_fed φ σ h b st e.0 t) ∙ blanks_on g σ e.1 t

no_suffix : (σ : Spot) (s : Sign) (ρ : Spot) → go σ s ≡ Some ρ → spaced σ ≡ true → is_suffix s ≡ false
no_suffix (opened ds) (inner (suffix m)) ρ e k = no_spot ρ e
no_suffix (opened ds) s ρ e k = refl
no_suffix (titled ds n) (inner (suffix m)) ρ e k = no_spot ρ e
no_suffix (titled ds n) s ρ e k = refl
no_suffix σ s ρ e k = absurd (false≢true k)

pub suffix_gap : (s : Sign) (b : ℕ) (g : List ℕ) → is_element s ≡ false → GapInside dtd s (b ∷ g) → (is_suffix s ≡ false) × IsSpace (b ∷ g)
suffix_gap element b g e h = absurd (false≢true (sym e))
suffix_gap (inner (suffix m)) b g e h = no_cons b g h
suffix_gap (inner (names n)) b g e h = (refl, h)
suffix_gap (inner empties) b g e h = (refl, h)
suffix_gap (inner opens) b g e h = (refl, h)
suffix_gap (inner closes) b g e h = (refl, h)
suffix_gap (inner (separator j)) b g e h = (refl, h)
suffix_gap (declared n) b g e h = (refl, h)
suffix_gap empty_word b g e h = (refl, h)
suffix_gap any_word b g e h = (refl, h)
suffix_gap pcdata_word b g e h = (refl, h)
suffix_gap ends b g e h = (refl, h)

loose : (σ : Spot) (s : Sign) (ρ : Spot) → go σ s ≡ Some ρ → is_suffix s ≡ false → tight σ ≡ false
loose (starless ds n (m ∷ ms)) (inner (suffix x)) ρ e k = absurd (false≢true (sym k))
loose (starless ds n (m ∷ ms)) s ρ e k = no_spot ρ e
loose σ s ρ e k = refl

not_true : (t : Bool) → (t ≡ true → ⊥) → t ≡ false
not_true true h = absurd (h refl)
not_true false h = refl

abbrev pub Gapped : Phase → List ℕ → Spot → Sign → Type 0
Gapped φ g σ s = (ψ : Phase) × (h : Bool) × (feeds g (Some φ) ≡ Some ψ) × Stands ψ σ h × (refused h σ s ≡ false)

pub gap_fed : (g : List ℕ) (φ : Phase) (σ ρ : Spot) (s : Sign) → Stands φ σ false → is_element s ≡ false → (spaced σ ≡ true → IsSomeSpace g)
    → (spaced σ ≡ false → GapInside dtd s g) → go σ s ≡ Some ρ → Gapped φ g σ s
gap_fed [] φ σ ρ s st not some space e = (φ, false, refl, st, not_true (spaced σ) (λ k. some k))
gap_fed (b ∷ g) φ σ ρ s st not some space e = both_ways (spaced σ) refl
  where
    both_ways : (t : Bool) → spaced σ ≡ t → Gapped φ (b ∷ g) σ s
    both_ways true k =
        let suf = no_suffix σ s ρ e k in
        (at σ true, true, blanks_fed b g φ σ false st (some k) (loose σ s ρ e suf), (refl, refl), suf)
    both_ways false k =
        let (suf, all) = suffix_gap s b g not (space k) in
        (at σ true, true, blanks_fed b g φ σ false st all (loose σ s ρ e suf), (refl, refl), suf)

-- comments
pub bits_fed : (us : List Bit) (ds : List Declaration) → AreBits us → feeds (bits us) (Some (inside ds)) ≡ Some (inside ds)
bits_fed [] ds h = refl
bits_fed (plain b ∷ us) ds ((char, other), h) =
    let one : feed (inside ds) b ≡ Some (inside ds) = rw (other, char) refl in
    ap (feeds (bits us)) one ∙ bits_fed us ds h
bits_fed (dashed b ∷ us) ds ((char, other), h) =
    let one : feed (dash ds) b ≡ Some (inside ds) = rw (other, char) refl in
    ap (feeds (bits us)) one ∙ bits_fed us ds h

pub piece_fed : (p : Between) (ds : List Declaration) (φ : Phase) (g : Bool) → Stands φ (outside ds) g → IsPiece p → feeds (piece p) (Some φ) ≡ Some (at (outside ds) true)
piece_fed (blank b) ds φ g st h = blank_fed φ (outside ds) g b st h refl
piece_fed (remark us) ds φ g st h =
    ap (feeds (33 ∷ 45 ∷ 45 ∷ (bits us ++ codes "-->"))) (feed_stands φ (outside ds) g 60 st (inl refl))
    ∙ feeds_on (bits us) (codes "-->") (Some (inside ds)) ∙ ap (feeds (codes "-->")) (bits_fed us ds h)

pub pieces_fed : (ps : List Between) (ds : List Declaration) (φ : Phase) (g : Bool) → Stands φ (outside ds) g → ArePieces ps
    → (ψ : Phase) × (h : Bool) × (feeds (pieces ps) (Some φ) ≡ Some ψ) × Stands ψ (outside ds) h
pieces_fed [] ds φ g st are = (φ, g, refl, st)
pieces_fed (p ∷ ps) ds φ g st are =
    let (ψ, h, fed, stands) = pieces_fed ps ds (at (outside ds) true) true (refl, refl) are.1 in
    (ψ, h, feeds_on (piece p) (pieces ps) (Some φ) ∙ ap (feeds (pieces ps)) (piece_fed p ds φ g st are.0) ∙ fed, stands)

-- the byte of a sign
byte_on : (φ : Phase) (σ ρ : Spot) (h : Bool) (b : ℕ) (s : Sign) → Stands φ σ h → is_blank b ≡ false → begins_name b ≡ false → goes_in_name b ≡ false
    → (b == 60) ≡ false → (b == 35) ≡ false → sign_at b ≡ Some s → refused h σ s ≡ false → go σ s ≡ Some ρ → feed φ b ≡ Some (at ρ false)
byte_on φ σ ρ h b s st plainly letter never less hash e r k =
    let one : feed_at σ h b ≡ Some (at ρ false) = rw (plainly, letter, less, hash, e, r, k) refl in
    feed_stands φ σ h b st (inl never) ∙ one

byte_fed : (φ : Phase) (σ ρ : Spot) (h : Bool) (b : ℕ) (s : Sign) → Stands φ σ h → is_blank b ≡ false → begins_name b ≡ false → goes_in_name b ≡ false
    → (b == 60) ≡ false → (b == 35) ≡ false → sign_at b ≡ Some s → refused h σ s ≡ false → go σ s ≡ Some ρ → Fed φ (b ∷ []) ρ
byte_fed φ σ ρ h b s st plainly letter never less hash e r k = (at ρ false, byte_on φ σ ρ h b s st plainly letter never less hash e r k, (refl, refl))

-- names
pub letter_fed : (σ : Spot) (h : Bool) (b : ℕ) → begins_name b ≡ true → feed_at σ h b ≡ lettered σ h b
letter_fed σ h b e = rw (name_no_blank b e, e) refl

pub name_goes_on : (bs : List ℕ) (a : Named) (n : List ℕ) → Each goes_in_name bs → feeds bs (Some (naming a n)) ≡ Some (naming a (n ++ bs))
name_goes_on [] a n h = ap (λ m. Some (naming a m)) (sym (append-nil n))
name_goes_on (b ∷ bs) a n (e, h) =
    let one : feed (naming a n) b ≡ Some (naming a (n ++ (b ∷ []))) = rw e refl in
    ap (feeds bs) one ∙ name_goes_on bs a (n ++ (b ∷ [])) h ∙ ap (λ m. Some (naming a m)) (append_assoc n (b ∷ []) bs)

name_fed : (a : Named) (n : List ℕ) (φ : Phase) (σ ρ : Spot) (h : Bool) → IsName n → Stands φ σ h → takes_letter σ h ≡ true
    → ((b : ℕ) → lettered σ h b ≡ Some (naming a (b ∷ []))) → name_after a n ≡ ρ → Fed φ n ρ
name_fed a [] φ σ ρ h is st e k same = absurd is
name_fed a (b ∷ bs) φ σ ρ h is st e k same = (
  naming a (b ∷ bs),
  ap (feeds bs) (feed_stands φ σ h b st (inr e) ∙ letter_fed σ h b is.0 ∙ k b) ∙ name_goes_on bs a (b ∷ []) is.1,
  (same, refl),
)

-- the bytes of a sign
element_fed : (φ : Phase) (σ ρ : Spot) (h : Bool) → Stands φ σ h → go σ element ≡ Some ρ → Fed φ (codes "<!ELEMENT") ρ
element_fed φ (outside ds) ρ h st e =
    (at (opened ds) false, ap (feeds (codes "!ELEMENT")) (feed_stands φ (outside ds) h 60 st (inl refl)), (same_some (opened ds) ρ e, refl))
element_fed φ σ ρ h st e = no_spot ρ e

declared_fed : (n : List ℕ) (φ : Phase) (σ ρ : Spot) (h : Bool) → IsName n → Stands φ σ h → refused h σ (declared n) ≡ false → go σ (declared n) ≡ Some ρ → Fed φ n ρ
declared_fed n φ (opened ds) ρ true is st r e = name_fed (title ds) n φ (opened ds) ρ true is st refl (λ b. refl) (same_some (titled ds n) ρ e)
declared_fed n φ (opened ds) ρ false is st r e = absurd (false≢true (sym r))
declared_fed n φ σ ρ h is st r e = no_spot ρ e

empty_fed : (φ : Phase) (σ ρ : Spot) (h : Bool) → Stands φ σ h → refused h σ empty_word ≡ false → go σ empty_word ≡ Some ρ → Fed φ (codes "EMPTY") ρ
empty_fed φ (titled ds n) ρ true st r e =
    (at (full ds n none) false, ap (feeds (codes "MPTY")) (feed_stands φ (titled ds n) true 69 st (inr refl)), (same_some (full ds n none) ρ e, refl))
empty_fed φ (titled ds n) ρ false st r e = absurd (false≢true (sym r))
empty_fed φ σ ρ h st r e = no_spot ρ e

any_fed : (φ : Phase) (σ ρ : Spot) (h : Bool) → Stands φ σ h → refused h σ any_word ≡ false → go σ any_word ≡ Some ρ → Fed φ (codes "ANY") ρ
any_fed φ (titled ds n) ρ true st r e =
    (at (word_after (the_any ds n)) false, ap (feeds (codes "NY")) (feed_stands φ (titled ds n) true 65 st (inr refl)), (same_some _ ρ e, refl))
any_fed φ (titled ds n) ρ false st r e = absurd (false≢true (sym r))
any_fed φ σ ρ h st r e = no_spot ρ e

pcdata_fed : (φ : Phase) (σ ρ : Spot) (h : Bool) → Stands φ σ h → go σ pcdata_word ≡ Some ρ → Fed φ (codes "#PCDATA") ρ
pcdata_fed φ (kids ds n (want [] None)) ρ h st e =
    (at (mixed ds n []) false, ap (feeds (codes "PCDATA")) (feed_stands φ (kids ds n (want [] None)) h 35 st (inl refl)), (same_some (mixed ds n []) ρ e, refl))
pcdata_fed φ (kids ds n (want [] (Some x))) ρ h st e = no_spot ρ e
pcdata_fed φ (kids ds n (want (k ∷ o) l)) ρ h st e = no_spot ρ e
pcdata_fed φ (kids ds n (got o l w)) ρ h st e = no_spot ρ e
pcdata_fed φ σ ρ h st e = no_spot ρ e

names_fed : (n : List ℕ) (φ : Phase) (σ ρ : Spot) (h : Bool) → IsName n → Stands φ σ h → go σ (inner (names n)) ≡ Some ρ → Fed φ n ρ
names_fed n φ (kids ds m (want o l)) ρ h is st e =
    name_fed (kid ds m o l) n φ (kids ds m (want o l)) ρ h is st refl (λ b. refl) (same_some (kids ds m (got o l (name n))) ρ e)
names_fed n φ (kids ds m (got o l w)) ρ h is st e = no_spot ρ e
names_fed n φ (wanted ds m ns) ρ h is st e =
    name_fed (mate ds m ns) n φ (wanted ds m ns) ρ h is st refl (λ b. refl) (same_some (mixed ds m (ns ++ (n ∷ []))) ρ e)
names_fed n φ σ ρ h is st e = no_spot ρ e

pub sign_fed : (s : Sign) (φ : Phase) (σ ρ : Spot) (h : Bool) → Stands φ σ h → refused h σ s ≡ false → SignFits s → go σ s ≡ Some ρ → Fed φ (sign_bytes dtd s) ρ
sign_fed element φ σ ρ h st r is e = element_fed φ σ ρ h st e
sign_fed (declared n) φ σ ρ h st r is e = declared_fed n φ σ ρ h is st r e
sign_fed empty_word φ σ ρ h st r is e = empty_fed φ σ ρ h st r e
sign_fed any_word φ σ ρ h st r is e = any_fed φ σ ρ h st r e
sign_fed pcdata_word φ σ ρ h st r is e = pcdata_fed φ σ ρ h st e
sign_fed (inner (names n)) φ σ ρ h st r is e = names_fed n φ σ ρ h is st e
sign_fed (inner empties) φ σ ρ h st r is e = absurd is
sign_fed (inner opens) φ σ ρ h st r is e = byte_fed φ σ ρ h 40 (inner opens) st refl refl refl refl refl refl r e
sign_fed (inner closes) φ σ ρ h st r is e = byte_fed φ σ ρ h 41 (inner closes) st refl refl refl refl refl refl r e
sign_fed (inner (suffix optional)) φ σ ρ h st r is e = byte_fed φ σ ρ h 63 (inner (suffix optional)) st refl refl refl refl refl refl r e
sign_fed (inner (suffix repeated)) φ σ ρ h st r is e = byte_fed φ σ ρ h 43 (inner (suffix repeated)) st refl refl refl refl refl refl r e
sign_fed (inner (suffix any)) φ σ ρ h st r is e = byte_fed φ σ ρ h 42 (inner (suffix any)) st refl refl refl refl refl refl r e
sign_fed (inner (separator alt)) φ σ ρ h st r is e = byte_fed φ σ ρ h 124 (inner (separator alt)) st refl refl refl refl refl refl r e
sign_fed (inner (separator next)) φ σ ρ h st r is e = byte_fed φ σ ρ h 44 (inner (separator next)) st refl refl refl refl refl refl r e
sign_fed (inner (separator both)) φ σ ρ h st r is e = absurd is
sign_fed ends φ σ ρ h st r is e = byte_fed φ σ ρ h 62 ends st refl refl refl refl refl refl r e

-- tokens
pub before_gap : (x s : Sign) (g : List ℕ) → GapBefore dtd x s g → (wants_space x ≡ true → IsSomeSpace g) × (wants_space x ≡ false → GapInside dtd s g)
before_gap element s g h = (λ e. h, λ e. absurd (false≢true (sym e)))
before_gap (declared n) s g h = (λ e. h, λ e. absurd (false≢true (sym e)))
before_gap empty_word s g h = (λ e. absurd (false≢true e), λ e. h)
before_gap any_word s g h = (λ e. absurd (false≢true e), λ e. h)
before_gap pcdata_word s g h = (λ e. absurd (false≢true e), λ e. h)
before_gap (inner t) s g h = (λ e. absurd (false≢true e), λ e. h)
before_gap ends s g h = (λ e. absurd (false≢true e), λ e. h)

-- before <!ELEMENT
outer_fed : (g : List ℕ) (φ : Phase) (σ ρ : Spot) → Stands φ σ false → (spaced σ ≡ false → IsGap g) → go σ element ≡ Some ρ → Fed φ (g ++ codes "<!ELEMENT") ρ
outer_fed g φ (outside ds) ρ st gap e =
    let (ps, are, is) = gap refl in
    let (ψ, h, fed, stands) = pieces_fed ps ds φ false st are in
    let (χ, on, last) = element_fed ψ (outside ds) ρ h stands e in
    (χ, feeds_on g (codes "<!ELEMENT") (Some φ) ∙ ap (λ x. feeds (codes "<!ELEMENT") (feeds x (Some φ))) is ∙ ap (feeds (codes "<!ELEMENT")) fed ∙ on, last)
outer_fed g φ σ ρ st gap e = no_spot ρ e

inner_fed : (s : Sign) (g : List ℕ) (φ : Phase) (σ ρ : Spot) → is_element s ≡ false → Stands φ σ false → (spaced σ ≡ true → IsSomeSpace g)
    → (spaced σ ≡ false → GapInside dtd s g) → SignFits s → go σ s ≡ Some ρ → Fed φ (g ++ sign_bytes dtd s) ρ
inner_fed s g φ σ ρ not st some space is e =
    let (ψ, h, fed, stands, r) = gap_fed g φ σ ρ s st not some space e in
    let (χ, on, last) = sign_fed s ψ σ ρ h stands r is e in
    (χ, feeds_on g (sign_bytes dtd s) (Some φ) ∙ ap (feeds (sign_bytes dtd s)) fed ∙ on, last)

token_fed : (s : Sign) (g : List ℕ) (φ : Phase) (σ ρ : Spot) → Stands φ σ false → (spaced σ ≡ true → IsSomeSpace g)
    → (spaced σ ≡ false → GapInside dtd s g) → SignFits s → go σ s ≡ Some ρ → Fed φ (g ++ sign_bytes dtd s) ρ
token_fed element g φ σ ρ st some space is e = outer_fed g φ σ ρ st space e
token_fed s g φ σ ρ st some space is e = inner_fed s g φ σ ρ refl st some space is e

pub tokens_fed : (ts : List Token) (x : Sign) (φ : Phase) (σ τ : Spot) → GapsFit dtd x ts → wants_space x ≡ spaced σ → Good σ → SignsFit (signs_of ts)
    → Stands φ σ false → goes (signs_of ts) (Some σ) ≡ Some τ → Fed φ (written dtd ts) τ
tokens_fed [] x φ σ τ fit wants good are st k = (φ, refl, moved φ st)
  where
    moved : (φ : Phase) → Stands φ σ false → Stands φ τ false
    moved (at ρ g) h = (h.0 ∙ same_some σ τ k, h.1)
    moved (naming a n) h = (h.0 ∙ same_some σ τ k, h.1)
    moved (word f left) h = absurd h
    moved (angle ds) h = absurd h
    moved (bang ds) h = absurd h
    moved (bar ds) h = absurd h
    moved (inside ds) h = absurd h
    moved (dash ds) h = absurd h
    moved (dashes ds) h = absurd h
tokens_fed (t ∷ ts) x φ σ τ fit wants good are st k =
    went (λ χ ρ wanted good now r. tokens_fed ts t.sign χ ρ τ fit.1 wanted good are.1 now r) (go σ t.sign) refl k
  where
    went : ((χ : Phase) (ρ : Spot) → wants_space t.sign ≡ spaced ρ → Good ρ → Stands χ ρ false → goes (signs_of ts) (Some ρ) ≡ Some τ → Fed χ (written dtd ts) τ)
        → (o : Option Spot) → go σ t.sign ≡ o → goes (signs_of ts) o ≡ Some τ → Fed φ (written dtd (t ∷ ts)) τ
    went others None e r = no_spot τ (sym (goes_none (signs_of ts)) ∙ r)
    went others (Some ρ) e r =
        let sound : Sound σ t.sign (Some ρ) = subst (Sound σ t.sign) e (go_sound σ t.sign good) in
        let gap = before_gap x t.sign t.gap fit.0 in
        let (χ, fed, now) = token_fed t.sign t.gap φ σ ρ st (λ e. gap.0 (wants ∙ e)) (λ e. gap.1 (wants ∙ e)) are.0 e in
        let (ψ, on, last) = others χ ρ (sym sound.2) sound.1 now r in (
          ψ,
          ap (λ xs. feeds xs (Some φ)) (sym (append_assoc t.gap (sign_bytes dtd t.sign) (written dtd ts))) ∙ feeds_on (t.gap ++ sign_bytes dtd t.sign) (written dtd ts) (Some φ)
              ∙ ap (feeds (written dtd ts)) fed ∙ on,
          last,
        )

-- outside a declaration
never_outside : (a : Named) (n : List ℕ) → is_outside (name_after a n) ≡ false
never_outside (title ds) n = refl
never_outside (kid ds m o l) n = refl
never_outside (mate ds m ns) n = refl

pub outside_at : (ψ : Phase) (ds : List Declaration) (h : Bool) → Stands ψ (outside ds) h → (g : Bool) × (Some ψ ≡ Some (at (outside ds) g))
outside_at (at σ g) ds h st = (g, ap (λ x. Some (at x g)) st.0)
outside_at (naming a n) ds h st = absurd (false≢true (sym (never_outside a n) ∙ ap is_outside st.0))
outside_at (word f left) ds h st = absurd st
outside_at (angle es) ds h st = absurd st
outside_at (bang es) ds h st = absurd st
outside_at (bar es) ds h st = absurd st
outside_at (inside es) ds h st = absurd st
outside_at (dash es) ds h st = absurd st
outside_at (dashes es) ds h st = absurd st

-- from each phase some bytes end the text
abbrev pub Ending : Phase → Type 0
Ending φ = (more : List ℕ) × (ds : List Declaration) × (g : Bool) × (feeds more (Some φ) ≡ Some (at (outside ds) g))

after : (xs : List ℕ) (φ ψ : Phase) → feeds xs (Some φ) ≡ Some ψ → Ending ψ → Ending φ
after xs φ ψ e (more, ds, g, k) = (xs ++ more, ds, g, feeds_on xs more (Some φ) ∙ ap (feeds more) e ∙ k)

pub let_in : (h : Bool) (σ : Spot) (s : Sign) → is_suffix s ≡ false → spaced σ ≡ false → refused h σ s ≡ false
let_in true σ s e k = e
let_in false σ s e k = k

end_full : (φ : Phase) (ds : List Declaration) (n : List ℕ) (c : Content) (h : Bool) → Stands φ (full ds n c) h → Ending φ
end_full φ ds n c h st = (
  62 ∷ [],
  ds ++ (made n c ∷ []),
  false,
  byte_on φ (full ds n c) (ended ds n c) h 62 ends st refl refl refl refl refl refl (let_in h (full ds n c) ends refl refl) refl,
)

end_grouped : (φ : Phase) (ds : List Declaration) (n : List ℕ) (v : Words) (h : Bool) → Stands φ (grouped ds n v) h → Ending φ
end_grouped φ ds n v h st = (
  62 ∷ [],
  ds ++ (made n (children (group v)) ∷ []),
  false,
  byte_on φ (grouped ds n v) (ended ds n (children (group v))) h 62 ends st refl refl refl refl refl refl (let_in h (grouped ds n v) ends refl refl) refl,
)

end_starless : (φ : Phase) (ds : List Declaration) (n : List ℕ) (ns : List (List ℕ)) (h : Bool) → Stands φ (starless ds n ns) h → (h && tight (starless ds n ns)) ≡ false → Ending φ
end_starless φ ds n [] h st t = (
  62 ∷ [],
  ds ++ (made n (text [] false) ∷ []),
  false,
  byte_on φ (starless ds n []) (ended ds n (text [] false)) h 62 ends st refl refl refl refl refl refl (let_in h (starless ds n []) ends refl refl) refl,
)
end_starless φ ds n (m ∷ ms) true st t = absurd (false≢true (sym t))
end_starless φ ds n (m ∷ ms) false st t =
    after (42 ∷ []) φ (at (full ds n (text (m ∷ ms) true)) false)
    (byte_on φ (starless ds n (m ∷ ms)) (full ds n (text (m ∷ ms) true)) false 42 (inner (suffix any)) st refl refl refl refl refl refl refl refl)
    (end_full _ ds n (text (m ∷ ms) true) false (refl, refl))

end_mixed : (φ : Phase) (ds : List Declaration) (n : List ℕ) (ns : List (List ℕ)) (h : Bool) → Stands φ (mixed ds n ns) h → Ending φ
end_mixed φ ds n ns h st =
    after (41 ∷ []) φ (at (starless ds n ns) false)
    (byte_on φ (mixed ds n ns) (starless ds n ns) h 41 (inner closes) st refl refl refl refl refl refl (let_in h (mixed ds n ns) (inner closes) refl refl) refl)
    (end_starless _ ds n ns false (refl, refl) refl)

end_got : (o : List Left) (l : Left) (w : Words) (φ : Phase) (ds : List Declaration) (n : List ℕ) (h : Bool) → Stands φ (kids ds n (got o l w)) h → Ending φ
end_got [] l w φ ds n h st =
    after (41 ∷ []) φ (at (grouped ds n (put l w)) false)
    (byte_on φ (kids ds n (got [] l w)) (grouped ds n (put l w)) h 41 (inner closes) st refl refl refl refl refl refl (let_in h (kids ds n (got [] l w)) (inner closes) refl refl) refl)
    (end_grouped _ ds n (put l w) false (refl, refl))
end_got (k ∷ o) l w φ ds n h st =
    after (41 ∷ []) φ (at (kids ds n (got o k (group (put l w)))) false)
    (byte_on φ (kids ds n (got (k ∷ o) l w)) (kids ds n (got o k (group (put l w)))) h 41 (inner closes) st refl refl refl refl refl refl (let_in h (kids ds n (got (k ∷ o) l w)) (inner closes) refl refl) refl)
    (end_got o k (group (put l w)) (at (kids ds n (got o k (group (put l w)))) false) ds n false (refl, refl))

end_want : (o : List Left) (l : Left) (φ : Phase) (ds : List Declaration) (n : List ℕ) (h : Bool) → Stands φ (kids ds n (want o l)) h → Ending φ
end_want o l φ ds n h st =
    after (97 ∷ []) φ (naming (kid ds n o l) (97 ∷ [])) (feed_stands φ (kids ds n (want o l)) h 97 st (inr refl))
    (end_got o l (name (97 ∷ [])) _ ds n false (refl, refl))

end_wanted : (φ : Phase) (ds : List Declaration) (n : List ℕ) (ns : List (List ℕ)) (h : Bool) → Stands φ (wanted ds n ns) h → Ending φ
end_wanted φ ds n ns h st =
    after (97 ∷ []) φ (naming (mate ds n ns) (97 ∷ [])) (feed_stands φ (wanted ds n ns) h 97 st (inr refl))
    (end_mixed _ ds n (ns ++ ((97 ∷ []) ∷ [])) false (refl, refl))

end_titled : (φ : Phase) (ds : List Declaration) (n : List ℕ) (h : Bool) → Stands φ (titled ds n) h → Ending φ
end_titled φ ds n h st =
    after (codes " EMPTY") φ (at (full ds n none) false) (ap (feeds (codes "EMPTY")) (blank_fed φ (titled ds n) h 32 st refl refl))
    (end_full _ ds n none false (refl, refl))

end_opened : (φ : Phase) (ds : List Declaration) (h : Bool) → Stands φ (opened ds) h → Ending φ
end_opened φ ds h st =
    after (codes " a") φ (naming (title ds) (97 ∷ [])) (ap (feeds (codes "a")) (blank_fed φ (opened ds) h 32 st refl refl))
    (end_titled _ ds (97 ∷ []) false (refl, refl))

end_outside : (φ : Phase) (ds : List Declaration) (h : Bool) → Stands φ (outside ds) h → Ending φ
end_outside φ ds h st = let (g, e) = outside_at φ ds h st in ([], ds, g, e)

end_at : (σ : Spot) (φ : Phase) (h : Bool) → Stands φ σ h → (h && tight σ) ≡ false → Ending φ
end_at (outside ds) φ h st t = end_outside φ ds h st
end_at (opened ds) φ h st t = end_opened φ ds h st
end_at (titled ds n) φ h st t = end_titled φ ds n h st
end_at (kids ds n (want o l)) φ h st t = end_want o l φ ds n h st
end_at (kids ds n (got o l w)) φ h st t = end_got o l w φ ds n h st
end_at (mixed ds n ns) φ h st t = end_mixed φ ds n ns h st
end_at (wanted ds n ns) φ h st t = end_wanted φ ds n ns h st
end_at (starless ds n ns) φ h st t = end_starless φ ds n ns h st t
end_at (grouped ds n v) φ h st t = end_grouped φ ds n v h st
end_at (full ds n c) φ h st t = end_full φ ds n c h st

pub same_byte : (c : ℕ) → (c == c) ≡ true
same_byte c = grind (arith, nat_tests)

word_ended : (f : Fixed) (c : ℕ) (left : List ℕ) → feeds (c ∷ left) (Some (word f (c ∷ left))) ≡ Some (at (word_after f) false)
word_ended f c [] = let one : feed (word f (c ∷ [])) c ≡ Some (at (word_after f) false) = rw (same_byte c) refl in one
word_ended f c (d ∷ left) =
    let one : feed (word f (c ∷ d ∷ left)) c ≡ Some (word f (d ∷ left)) = rw (same_byte c) refl in
    ap (feeds (d ∷ left)) one ∙ word_ended f d left

pub ending : (φ : Phase) (p : List ℕ) → Spelt p φ → Ending φ
ending (at σ g) p (ts, gap, base, h, t, w) = end_at σ (at σ g) g (refl, refl) t
ending (naming a n) p h = end_at (name_after a n) (naming a n) false (refl, refl) refl
ending (word f []) p h = absurd h
ending (word f (c ∷ left)) p h =
    after (c ∷ left) (word f (c ∷ left)) (at (word_after f) false) (word_ended f c left) (end_at (word_after f) _ false (refl, refl) refl)
ending (angle ds) p h = after (codes "!ELEMENT") (angle ds) (at (opened ds) false) refl (end_opened _ ds false (refl, refl))
ending (bang ds) p h = after (codes "ELEMENT") (bang ds) (at (opened ds) false) refl (end_opened _ ds false (refl, refl))
ending (bar ds) p h = (codes "--->", ds, true, refl)
ending (inside ds) p h = (codes "-->", ds, true, refl)
ending (dash ds) p h = (codes "->", ds, true, refl)
ending (dashes ds) p h = (codes ">", ds, true, refl)
