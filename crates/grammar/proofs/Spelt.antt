-- What the machine has read is spelled by the signs of its phase. Assumes nothing.
use Rattle.std.proofs.Common.{◌≡◌, ℕ, Bool, true, false, cond, ◌&&◌, ◌==◌, List, [], ◌∷◌, ◌++◌, Some, None, Option, sym, refl, ap, ◌∙◌, subst, arith}
use Rattle.std.specs.Prelude.{codes}
use Rattle.std.proofs.lemmas.List.{append_assoc, append-nil}
use Rattle.std.proofs.lemmas.Bool.{false≢true}
use Rattle.std.proofs.lemmas.Bool.Decides.{nat_tests}
use Rattle.grammar.specs.Bytes.{is_blank, begins_name, goes_in_name, is_char, Each, IsName, IsSpace, IsSomeSpace, Bit, IsBit, AreBits, bit, bits, Between, IsPiece, piece, pieces, ArePieces, IsGap}
use Rattle.grammar.specs.Bytes.Bit.{plain, dashed}
use Rattle.grammar.specs.Bytes.Between.{blank, remark}
use Rattle.grammar.specs.Lists.State.{want, got}
use Rattle.grammar.specs.Notations.Notation.{dtd}
use Rattle.grammar.specs.Declarations.{Declaration, Sign, Token, sign_bytes, GapInside, GapBefore, GapsFit, signs_of, written}
use Rattle.grammar.specs.Declarations.Sign.{element, declared, empty_word, any_word, pcdata_word, inner, ends}
use Rattle.grammar.specs.Machine.{Spot, spelled, SignFits, go, spaced, tight, Named, name_before, name_sign, name_after, Fixed, word_before, word_sign, word_after, Phase, sign_at, is_suffix, into, refused, signed, lettered, angled, hashed, feed_at, word_on, feed, feeds, first}
use Rattle.grammar.specs.Machine.Spot.{outside, opened, titled, kids, mixed, wanted, starless, grouped, full}
use Rattle.grammar.specs.Machine.Named.{title, kid, mate}
use Rattle.grammar.specs.Machine.Fixed.{the_element, the_empty, the_any, the_pcdata}
use Rattle.grammar.specs.Machine.Phase.{at, naming, word, angle, bang, bar, inside, dash, dashes}
use Rattle.grammar.proofs.Signs.{Good, Sound, wants_space, go_sound, SignsFit, SignsFit-append}

-- bytes
pub Each-append : (test : ℕ → Bool) (xs ys : List ℕ) → Each test xs → Each test ys → Each test (xs ++ ys)
Each-append test [] ys h k = k
Each-append test (x ∷ xs) ys h k = (h.0, Each-append test xs ys h.1 k)

pub byte_is : (b c : ℕ) → (b == c) ≡ true → b ≡ c
byte_is b c e = grind (arith, nat_tests)

pub no_cons : {X : Type 0} (b : ℕ) (bs : List ℕ) → b ∷ bs ≡ [] → X
no_cons b bs e = absurd (false≢true (ap (λ xs. elim xs [ [] ↦ true | y ∷ ys ↦ false ]) e))

-- gaps
pieces-append : (ps qs : List Between) → pieces (ps ++ qs) ≡ pieces ps ++ pieces qs
pieces-append [] qs = refl
pieces-append (p ∷ ps) qs = ap (λ xs. piece p ++ xs) (pieces-append ps qs) ∙ sym (append_assoc (piece p) (pieces ps) (pieces qs))

ArePieces-append : (ps qs : List Between) → ArePieces ps → ArePieces qs → ArePieces (ps ++ qs)
ArePieces-append [] qs h k = k
ArePieces-append (p ∷ ps) qs h k = (h.0, ArePieces-append ps qs h.1 k)

more_gap : (g : List ℕ) (p : Between) → IsGap g → IsPiece p → IsGap (g ++ piece p)
more_gap g p (ps, are, e) h = (
  ps ++ (p ∷ []),
  ArePieces-append ps (p ∷ []) are (h, tt),
  ap (λ xs. xs ++ piece p) e ∙ ap (λ xs. pieces ps ++ xs) (sym (append-nil (piece p))) ∙ sym (pieces-append ps (p ∷ [])),
)

bits-more : (us : List Bit) (u : Bit) → bits (us ++ (u ∷ [])) ≡ bits us ++ bit u
bits-more [] u = append-nil (bit u)
bits-more (v ∷ us) u = ap (λ xs. bit v ++ xs) (bits-more us u) ∙ sym (append_assoc (bit v) (bits us) (bit u))

AreBits-more : (us : List Bit) (u : Bit) → AreBits us → IsBit u → AreBits (us ++ (u ∷ []))
AreBits-more [] u h k = (k, tt)
AreBits-more (v ∷ us) u h k = (h.0, AreBits-more us u h.1 k)

-- tokens
abbrev pub token : List ℕ → Sign → Token
token g s = record { gap = g; sign = s }

abbrev pub last_sign : Sign → List Token → Sign
last_sign x [] = x
last_sign x (t ∷ ts) = last_sign t.sign ts

pub last-more : (x : Sign) (ts : List Token) (t : Token) → last_sign x (ts ++ (t ∷ [])) ≡ t.sign
last-more x [] t = refl
last-more x (u ∷ ts) t = last-more u.sign ts t

pub signs_of-append : (ts us : List Token) → signs_of (ts ++ us) ≡ signs_of ts ++ signs_of us
signs_of-append [] us = refl
signs_of-append (t ∷ ts) us = ap (λ ss. t.sign ∷ ss) (signs_of-append ts us)

pub written-append : (ts us : List Token) → written dtd (ts ++ us) ≡ written dtd ts ++ written dtd us
written-append [] us = refl
written-append (t ∷ ts) us = rw (written-append ts us) (simp append_assoc)

pub longer : (ts : List Token) (gap : List ℕ) (s : Sign) → written dtd (ts ++ (token gap s ∷ [])) ≡ written dtd ts ++ (gap ++ sign_bytes dtd s)
longer ts gap s = written-append ts _ ∙ rw append-nil refl

GapsFit-more : (x : Sign) (ts : List Token) (t : Token) → GapsFit dtd x ts → GapBefore dtd (last_sign x ts) t.sign t.gap → GapsFit dtd x (ts ++ (t ∷ []))
GapsFit-more x [] t h k = (k, tt)
GapsFit-more x (u ∷ ts) t h k = (h.0, GapsFit-more u.sign ts t h.1 k)

pub gap_before : (x s : Sign) (g : List ℕ) → (wants_space x ≡ true → IsSomeSpace g) → (wants_space x ≡ false → GapInside dtd s g) → GapBefore dtd x s g
gap_before element s g h k = h refl
gap_before (declared n) s g h k = h refl
gap_before empty_word s g h k = k refl
gap_before any_word s g h k = k refl
gap_before pcdata_word s g h k = k refl
gap_before (inner t) s g h k = k refl
gap_before ends s g h k = k refl

-- the tokens behind which reading stands at a spot
abbrev pub Base : List Token → Spot → Type 0
Base ts σ = Good σ × (signs_of ts ≡ spelled σ) × GapsFit dtd ends ts × SignsFit (signs_of ts) × (wants_space (last_sign ends ts) ≡ spaced σ)

-- the white space may stand at the spot before the sign
abbrev pub FitGap : Spot → Sign → List ℕ → Type 0
FitGap σ s g = (spaced σ ≡ true → IsSomeSpace g) × (spaced σ ≡ false → GapInside dtd s g)

pub extend : (ts : List Token) (gap : List ℕ) (s : Sign) (σ τ : Spot) → Base ts σ → FitGap σ s gap → SignFits s → go σ s ≡ Some τ
    → Base (ts ++ (token gap s ∷ [])) τ
extend ts gap s σ τ (good, read, fits, are, last) fit is e =
    let sound : Sound σ s (Some τ) = subst (Sound σ s) e (go_sound σ s good) in (
      sound.1,
      signs_of-append ts (token gap s ∷ []) ∙ ap (λ ss. ss ++ (s ∷ [])) read ∙ sym sound.0,
      GapsFit-more ends ts (token gap s) fits (gap_before (last_sign ends ts) s gap (λ k. fit.0 (sym last ∙ k)) (λ k. fit.1 (sym last ∙ k))),
      subst SignsFit (sym (signs_of-append ts (token gap s ∷ []))) (SignsFit-append (signs_of ts) (s ∷ []) are (is, tt)),
      ap wants_space (last-more ends ts (token gap s)) ∙ sym sound.2,
    )

-- the white space behind a sign
abbrev pub Spaces : Bool → List ℕ → Type 0
Spaces true g = IsSomeSpace g
Spaces false g = g ≡ []

abbrev pub GapAt : Spot → Bool → List ℕ → Type 0
GapAt (outside ds) g gap = IsGap gap
GapAt σ g gap = Spaces g gap

pub spaces_space : (g : Bool) (gap : List ℕ) → Spaces g gap → IsSpace gap
spaces_space true [] h = absurd h
spaces_space true (b ∷ bs) h = h
spaces_space false gap h = subst IsSpace (sym h) tt

no_gap : (σ : Spot) → GapAt σ false []
no_gap (outside ds) = ([], tt, refl)
no_gap σ = refl

some_space : (g : Bool) (gap : List ℕ) (b : ℕ) → Spaces g gap → is_blank b ≡ true → IsSomeSpace (gap ++ (b ∷ []))
some_space g [] b h e = (e, tt)
some_space true (c ∷ cs) b h e = (h.0, Each-append is_blank cs (b ∷ []) h.1 (e, tt))
some_space false (c ∷ cs) b h e = no_cons c cs h

blank_gap : (σ : Spot) (g : Bool) (gap : List ℕ) (b : ℕ) → GapAt σ g gap → is_blank b ≡ true → GapAt σ true (gap ++ (b ∷ []))
blank_gap (outside ds) g gap b h e = more_gap gap (blank b) h e
blank_gap σ g gap b h e = some_space g gap b h e

abbrev pub NameGap : Named → List ℕ → Type 0
NameGap a gap = (spaced (name_before a) ≡ true → IsSomeSpace gap) × (spaced (name_before a) ≡ false → IsSpace gap)

-- what was read of the bytes p
abbrev pub Spelt : List ℕ → Phase → Type 0
Spelt p (at σ g) = (ts : List Token) × (gap : List ℕ) × Base ts σ × GapAt σ g gap × ((g && tight σ) ≡ false) × (p ≡ written dtd ts ++ gap)
Spelt p (naming a n) = (ts : List Token) × (gap : List ℕ) × Base ts (name_before a) × NameGap a gap × IsName n × (p ≡ written dtd ts ++ (gap ++ n))
Spelt p (word f []) = ⊥
Spelt p (word f (c ∷ left)) =
    (ts : List Token) × (gap : List ℕ) × (done : List ℕ) × Base ts (word_before f) × FitGap (word_before f) (word_sign f) gap
    × (done ++ (c ∷ left) ≡ sign_bytes dtd (word_sign f)) × (p ≡ written dtd ts ++ (gap ++ done))
Spelt p (angle ds) = (ts : List Token) × (gap : List ℕ) × Base ts (outside ds) × IsGap gap × (p ≡ written dtd ts ++ (gap ++ (60 ∷ [])))
Spelt p (bang ds) = (ts : List Token) × (gap : List ℕ) × Base ts (outside ds) × IsGap gap × (p ≡ written dtd ts ++ (gap ++ (60 ∷ 33 ∷ [])))
Spelt p (bar ds) = (ts : List Token) × (gap : List ℕ) × Base ts (outside ds) × IsGap gap × (p ≡ written dtd ts ++ (gap ++ (60 ∷ 33 ∷ 45 ∷ [])))
Spelt p (inside ds) =
    (ts : List Token) × (gap : List ℕ) × (us : List Bit) × Base ts (outside ds) × IsGap gap × AreBits us
    × (p ≡ written dtd ts ++ (gap ++ (60 ∷ 33 ∷ 45 ∷ 45 ∷ bits us)))
Spelt p (dash ds) =
    (ts : List Token) × (gap : List ℕ) × (us : List Bit) × Base ts (outside ds) × IsGap gap × AreBits us
    × (p ≡ written dtd ts ++ (gap ++ (60 ∷ 33 ∷ 45 ∷ 45 ∷ (bits us ++ (45 ∷ [])))))
Spelt p (dashes ds) =
    (ts : List Token) × (gap : List ℕ) × (us : List Bit) × Base ts (outside ds) × IsGap gap × AreBits us
    × (p ≡ written dtd ts ++ (gap ++ (60 ∷ 33 ∷ 45 ∷ 45 ∷ (bits us ++ (45 ∷ 45 ∷ [])))))

abbrev pub Leads : List ℕ → Option Phase → Type 0
Leads p None = Unit {0}
Leads p (Some φ) = Spelt p φ

cond_leads : (p : List ℕ) (t : Bool) (x y : Option Phase) → (t ≡ true → Leads p x) → (t ≡ false → Leads p y) → Leads p (cond t x y)
cond_leads p true x y h k = h refl
cond_leads p false x y h k = k refl

-- one byte more
more : (p xs gap done : List ℕ) (b : ℕ) → p ≡ xs ++ (gap ++ done) → p ++ (b ∷ []) ≡ xs ++ (gap ++ (done ++ (b ∷ [])))
more p xs gap done b e =
    ap (λ q. q ++ (b ∷ [])) e ∙ append_assoc xs (gap ++ done) (b ∷ []) ∙ ap (λ q. xs ++ q) (append_assoc gap done (b ∷ []))

more_at : (p xs gap : List ℕ) (b : ℕ) → p ≡ xs ++ gap → p ++ (b ∷ []) ≡ xs ++ (gap ++ (b ∷ []))
more_at p xs gap b e = ap (λ q. q ++ (b ∷ [])) e ∙ append_assoc xs gap (b ∷ [])

-- a sign whose bytes have been read
arrive : (p : List ℕ) (ts : List Token) (gap : List ℕ) (s : Sign) (σ τ : Spot) → Base ts σ → FitGap σ s gap → SignFits s → go σ s ≡ Some τ
    → p ≡ written dtd ts ++ (gap ++ sign_bytes dtd s) → Spelt p (at τ false)
arrive p ts gap s σ τ base fit is e w =
    (ts ++ (token gap s ∷ []), [], extend ts gap s σ τ base fit is e, no_gap τ, refl, w ∙ sym (longer ts gap s) ∙ sym (append-nil _))

-- signs of one byte
abbrev pub is_element : Sign → Bool
is_element element = true
is_element s = false

abbrev SignOf : ℕ → Option Sign → Type 0
SignOf b None = Unit {0}
SignOf b (Some s) =
    (sign_bytes dtd s ≡ b ∷ []) × SignFits s × (is_element s ≡ false) × ((g : List ℕ) → IsSpace g → (is_suffix s ≡ true → g ≡ []) → GapInside dtd s g)

cond_sign : (b : ℕ) (t : Bool) (x y : Option Sign) → (t ≡ true → SignOf b x) → SignOf b y → SignOf b (cond t x y)
cond_sign b true x y h k = h refl
cond_sign b false x y h k = k

one_byte : (b c : ℕ) → (b == c) ≡ true → c ∷ [] ≡ b ∷ []
one_byte b c e = ap (λ x. x ∷ []) (sym (byte_is b c e))

sign_of : (b : ℕ) → SignOf b (sign_at b)
sign_of b =
    cond_sign b (b == 40) _ _ (λ e. (one_byte b 40 e, tt, refl, λ g h k. h))
    (cond_sign b (b == 41) _ _ (λ e. (one_byte b 41 e, tt, refl, λ g h k. h))
    (cond_sign b (b == 63) _ _ (λ e. (one_byte b 63 e, tt, refl, λ g h k. k refl))
    (cond_sign b (b == 43) _ _ (λ e. (one_byte b 43 e, tt, refl, λ g h k. k refl))
    (cond_sign b (b == 42) _ _ (λ e. (one_byte b 42 e, tt, refl, λ g h k. k refl))
    (cond_sign b (b == 124) _ _ (λ e. (one_byte b 124 e, tt, refl, λ g h k. h))
    (cond_sign b (b == 44) _ _ (λ e. (one_byte b 44 e, tt, refl, λ g h k. h))
    (cond_sign b (b == 62) _ _ (λ e. (one_byte b 62 e, tt, refl, λ g h k. h)) tt)))))))

pub fit_one : (σ : Spot) (g : Bool) (gap : List ℕ) (s : Sign) → Spaces g gap → refused g σ s ≡ false
    → ((g : List ℕ) → IsSpace g → (is_suffix s ≡ true → g ≡ []) → GapInside dtd s g) → FitGap σ s gap
fit_one σ true gap s h r k = (λ e. h, λ e. k gap (spaces_space true gap h) (λ suf. absurd (false≢true (sym r ∙ suf))))
fit_one σ false gap s h r k = (λ e. absurd (false≢true (sym r ∙ e)), λ e. k gap (spaces_space false gap h) (λ suf. h))

went : (p : List ℕ) (b : ℕ) (ts : List Token) (gap : List ℕ) (s : Sign) (σ : Spot) (o : Option Spot) → go σ s ≡ o → Base ts σ → FitGap σ s gap
    → SignOf b (Some s) → p ≡ written dtd ts ++ gap → Leads (p ++ (b ∷ [])) (into o)
went p b ts gap s σ None e base fit k w = tt
went p b ts gap s σ (Some τ) e base fit k w =
    arrive (p ++ (b ∷ [])) ts gap s σ τ base fit k.1 e (more_at p (written dtd ts) gap b w ∙ ap (λ x. written dtd ts ++ (gap ++ x)) (sym k.0))

signed_in : (p : List ℕ) (b : ℕ) (g : Bool) (σ : Spot) (o : Option Sign) (ts : List Token) (gap : List ℕ) → Base ts σ → Spaces g gap
    → p ≡ written dtd ts ++ gap → SignOf b o → Leads (p ++ (b ∷ [])) (signed g σ o)
signed_in p b g σ None ts gap base h w k = tt
signed_in p b g σ (Some s) ts gap base h w k =
    cond_leads (p ++ (b ∷ [])) (refused g σ s) None (into (go σ s)) (λ e. tt)
    (λ r. went p b ts gap s σ (go σ s) refl base (fit_one σ g gap s h r k.3) k w)

outside_none : (ds : List Declaration) (s : Sign) → is_element s ≡ false → go (outside ds) s ≡ None
outside_none ds element e = absurd (false≢true (sym e))
outside_none ds s e = refl

signed_leads : (p : List ℕ) (b : ℕ) (g : Bool) (σ : Spot) (o : Option Sign) → Spelt p (at σ g) → SignOf b o → Leads (p ++ (b ∷ [])) (signed g σ o)
signed_leads p b g (outside ds) None h k = tt
signed_leads p b g (outside ds) (Some s) h k =
    cond_leads (p ++ (b ∷ [])) (refused g (outside ds) s) None (into (go (outside ds) s)) (λ e. tt)
    (λ r. subst (λ o. Leads (p ++ (b ∷ [])) (into o)) (sym (outside_none ds s k.2)) tt)
signed_leads p b g σ o (ts, gap, base, h, t, w) k = signed_in p b g σ o ts gap base h w k

-- words
begun : (p : List ℕ) (b c : ℕ) (ts : List Token) (gap : List ℕ) (f : Fixed) (d : ℕ) (left : List ℕ) → (b == c) ≡ true → Base ts (word_before f)
    → FitGap (word_before f) (word_sign f) gap → c ∷ d ∷ left ≡ sign_bytes dtd (word_sign f) → p ≡ written dtd ts ++ gap
    → Leads (p ++ (b ∷ [])) (Some (word f (d ∷ left)))
begun p b c ts gap f d left e base fit is w =
    (ts, gap, b ∷ [], base, fit, ap (λ x. x ∷ d ∷ left) (byte_is b c e) ∙ is, more_at p (written dtd ts) gap b w)

spaced_fit : (ds : List Declaration) (n : List ℕ) (s : Sign) (gap : List ℕ) → IsSomeSpace gap → FitGap (titled ds n) s gap
spaced_fit ds n s gap h = (λ e. h, λ e. absurd (false≢true (sym e)))

lettered_leads : (p : List ℕ) (b : ℕ) (g : Bool) (σ : Spot) → begins_name b ≡ true → Spelt p (at σ g) → Leads (p ++ (b ∷ [])) (lettered σ g b)
lettered_leads p b true (opened ds) e (ts, gap, base, h, t, w) =
    (ts, gap, base, (λ k. h, λ k. absurd (false≢true (sym k))), (e, tt), more_at p (written dtd ts) gap b w)
lettered_leads p b false (opened ds) e h = tt
lettered_leads p b true (titled ds n) e (ts, gap, base, h, t, w) =
    cond_leads (p ++ (b ∷ [])) (b == 69) _ _
    (λ is. begun p b 69 ts gap (the_empty ds n) 77 (codes "PTY") is base (spaced_fit ds n empty_word gap h) refl w)
    (λ no. cond_leads (p ++ (b ∷ [])) (b == 65) _ _
    (λ is. begun p b 65 ts gap (the_any ds n) 78 (codes "Y") is base (spaced_fit ds n any_word gap h) refl w) (λ none. tt))
lettered_leads p b false (titled ds n) e h = tt
lettered_leads p b g (kids ds n (want o l)) e (ts, gap, base, h, t, w) =
    (ts, gap, base, (λ k. absurd (false≢true k), λ k. spaces_space g gap h), (e, tt), more_at p (written dtd ts) gap b w)
lettered_leads p b g (kids ds n (got o l v)) e h = tt
lettered_leads p b g (wanted ds n ns) e (ts, gap, base, h, t, w) =
    (ts, gap, base, (λ k. absurd (false≢true k), λ k. spaces_space g gap h), (e, tt), more_at p (written dtd ts) gap b w)
lettered_leads p b g (outside ds) e h = tt
lettered_leads p b g (mixed ds n ns) e h = tt
lettered_leads p b g (starless ds n ns) e h = tt
lettered_leads p b g (grouped ds n v) e h = tt
lettered_leads p b g (full ds n c) e h = tt

angled_leads : (p : List ℕ) (b : ℕ) (g : Bool) (σ : Spot) → (b == 60) ≡ true → Spelt p (at σ g) → Leads (p ++ (b ∷ [])) (angled σ)
angled_leads p b g (outside ds) e (ts, gap, base, h, t, w) =
    (ts, gap, base, h, more_at p (written dtd ts) gap b w ∙ ap (λ x. written dtd ts ++ (gap ++ (x ∷ []))) (byte_is b 60 e))
angled_leads p b g σ e h = tt

hashed_leads : (p : List ℕ) (b : ℕ) (g : Bool) (σ : Spot) → (b == 35) ≡ true → Spelt p (at σ g) → Leads (p ++ (b ∷ [])) (hashed σ)
hashed_leads p b g (kids ds n (want [] None)) e (ts, gap, base, h, t, w) =
    begun p b 35 ts gap (the_pcdata ds n) 80 (codes "CDATA") e base (λ k. absurd (false≢true k), λ k. spaces_space g gap h) refl w
hashed_leads p b g (kids ds n (want [] (Some x))) e h = tt
hashed_leads p b g (kids ds n (want (k ∷ o) l)) e h = tt
hashed_leads p b g (kids ds n (got o l v)) e h = tt
hashed_leads p b g σ e h = tt

blank_leads : (p : List ℕ) (b : ℕ) (g : Bool) (σ : Spot) → is_blank b ≡ true → tight σ ≡ false → Spelt p (at σ g) → Spelt (p ++ (b ∷ [])) (at σ true)
blank_leads p b g σ e t (ts, gap, base, h, u, w) = (ts, gap ++ (b ∷ []), base, blank_gap σ g gap b h e, t, more_at p (written dtd ts) gap b w)

at_leads : (p : List ℕ) (b : ℕ) (g : Bool) (σ : Spot) → Spelt p (at σ g) → Leads (p ++ (b ∷ [])) (feed_at σ g b)
at_leads p b g σ h =
    cond_leads (p ++ (b ∷ [])) (is_blank b) _ _
    (λ e. cond_leads (p ++ (b ∷ [])) (tight σ) None (Some (at σ true)) (λ t. tt) (λ t. blank_leads p b g σ e t h))
    (λ no. cond_leads (p ++ (b ∷ [])) (begins_name b) _ _ (λ e. lettered_leads p b g σ e h)
    (λ none. cond_leads (p ++ (b ∷ [])) (b == 60) _ _ (λ e. angled_leads p b g σ e h)
    (λ never. cond_leads (p ++ (b ∷ [])) (b == 35) _ _ (λ e. hashed_leads p b g σ e h)
    (λ left. signed_leads p b g σ (sign_at b) h (sign_of b)))))

-- names
pub name_goes : (a : Named) (n : List ℕ) → go (name_before a) (name_sign a n) ≡ Some (name_after a n)
name_goes (title ds) n = refl
name_goes (kid ds m o l) n = refl
name_goes (mate ds m ns) n = refl

pub name_fits : (a : Named) (n gap : List ℕ) → IsName n → NameGap a gap → SignFits (name_sign a n) × FitGap (name_before a) (name_sign a n) gap × (sign_bytes dtd (name_sign a n) ≡ n)
name_fits (title ds) n gap h k = (h, k, refl)
name_fits (kid ds m o l) n gap h k = (h, k, refl)
name_fits (mate ds m ns) n gap h k = (h, k, refl)

pub named : (p : List ℕ) (a : Named) (n : List ℕ) → Spelt p (naming a n) → Spelt p (at (name_after a n) false)
named p a n (ts, gap, base, h, is, w) =
    let (fits, fit, same) = name_fits a n gap is h in
    arrive p ts gap (name_sign a n) (name_before a) (name_after a n) base fit fits (name_goes a n) (w ∙ ap (λ x. written dtd ts ++ (gap ++ x)) (sym same))

name_on : (n : List ℕ) (b : ℕ) → IsName n → goes_in_name b ≡ true → IsName (n ++ (b ∷ []))
name_on [] b h e = absurd h
name_on (c ∷ n) b h e = (h.0, Each-append goes_in_name n (b ∷ []) h.1 (e, tt))

-- fixed words
pub word_goes : (f : Fixed) → go (word_before f) (word_sign f) ≡ Some (word_after f)
word_goes (the_element ds) = refl
word_goes (the_empty ds n) = refl
word_goes (the_any ds n) = refl
word_goes (the_pcdata ds n) = refl

word_fits : (f : Fixed) → SignFits (word_sign f)
word_fits (the_element ds) = tt
word_fits (the_empty ds n) = tt
word_fits (the_any ds n) = tt
word_fits (the_pcdata ds n) = tt

word_leads : (p : List ℕ) (f : Fixed) (c : ℕ) (left : List ℕ) (b : ℕ) → Spelt p (word f (c ∷ left)) → (b == c) ≡ true → Spelt (p ++ (b ∷ [])) (word_on f left)
word_leads p f c [] b (ts, gap, done, base, fit, is, w) e =
    arrive (p ++ (b ∷ [])) ts gap (word_sign f) (word_before f) (word_after f) base fit (word_fits f) (word_goes f)
    (more p (written dtd ts) gap done b w ∙ ap (λ x. written dtd ts ++ (gap ++ (done ++ (x ∷ [])))) (byte_is b c e) ∙ ap (λ x. written dtd ts ++ (gap ++ x)) is)
word_leads p f c (d ∷ left) b (ts, gap, done, base, fit, is, w) e = (
  ts,
  gap,
  done ++ (b ∷ []),
  base,
  fit,
  append_assoc done (b ∷ []) (d ∷ left) ∙ ap (λ x. done ++ (x ∷ d ∷ left)) (byte_is b c e) ∙ is,
  more p (written dtd ts) gap done b w,
)

-- comments
inside_leads : (p : List ℕ) (ds : List Declaration) (b : ℕ) → Spelt p (inside ds) → Leads (p ++ (b ∷ [])) (feed (inside ds) b)
inside_leads p ds b (ts, gap, us, base, h, are, w) =
    cond_leads (p ++ (b ∷ [])) (b == 45) _ _
    (λ e. (
      ts,
      gap,
      us,
      base,
      h,
      are,
      more p (written dtd ts) gap (60 ∷ 33 ∷ 45 ∷ 45 ∷ bits us) b w ∙ ap (λ x. written dtd ts ++ (gap ++ (60 ∷ 33 ∷ 45 ∷ 45 ∷ (bits us ++ (x ∷ []))))) (byte_is b 45 e),
    ))
    (λ no. cond_leads (p ++ (b ∷ [])) (is_char b) _ _
    (λ e. (
      ts,
      gap,
      us ++ (plain b ∷ []),
      base,
      h,
      AreBits-more us (plain b) are (e, no),
      more p (written dtd ts) gap (60 ∷ 33 ∷ 45 ∷ 45 ∷ bits us) b w ∙ ap (λ x. written dtd ts ++ (gap ++ (60 ∷ 33 ∷ 45 ∷ 45 ∷ x))) (sym (bits-more us (plain b))),
    ))
    (λ none. tt))

dash_leads : (p : List ℕ) (ds : List Declaration) (b : ℕ) → Spelt p (dash ds) → Leads (p ++ (b ∷ [])) (feed (dash ds) b)
dash_leads p ds b (ts, gap, us, base, h, are, w) =
    let here = more p (written dtd ts) gap (60 ∷ 33 ∷ 45 ∷ 45 ∷ (bits us ++ (45 ∷ []))) b w
    ∙ ap (λ x. written dtd ts ++ (gap ++ (60 ∷ 33 ∷ 45 ∷ 45 ∷ x))) (append_assoc (bits us) (45 ∷ []) (b ∷ [])) in
    cond_leads (p ++ (b ∷ [])) (b == 45) _ _
    (λ e. (ts, gap, us, base, h, are, here ∙ ap (λ x. written dtd ts ++ (gap ++ (60 ∷ 33 ∷ 45 ∷ 45 ∷ (bits us ++ (45 ∷ x ∷ []))))) (byte_is b 45 e)))
    (λ no. cond_leads (p ++ (b ∷ [])) (is_char b) _ _
    (λ e. (
      ts,
      gap,
      us ++ (dashed b ∷ []),
      base,
      h,
      AreBits-more us (dashed b) are (e, no),
      here ∙ ap (λ x. written dtd ts ++ (gap ++ (60 ∷ 33 ∷ 45 ∷ 45 ∷ x))) (sym (bits-more us (dashed b))),
    ))
    (λ none. tt))

dashes_leads : (p : List ℕ) (ds : List Declaration) (b : ℕ) → Spelt p (dashes ds) → Leads (p ++ (b ∷ [])) (feed (dashes ds) b)
dashes_leads p ds b (ts, gap, us, base, h, are, w) =
    cond_leads (p ++ (b ∷ [])) (b == 62) _ _
    (λ e. (
      ts,
      gap ++ piece (remark us),
      base,
      more_gap gap (remark us) h are,
      refl,
      more p (written dtd ts) gap (60 ∷ 33 ∷ 45 ∷ 45 ∷ (bits us ++ (45 ∷ 45 ∷ []))) b w
          ∙ ap (λ x. written dtd ts ++ (gap ++ (60 ∷ 33 ∷ 45 ∷ 45 ∷ x))) (append_assoc (bits us) (45 ∷ 45 ∷ []) (b ∷ []) ∙ ap (λ y. bits us ++ (45 ∷ 45 ∷ y ∷ [])) (byte_is b 62 e)),
    ))
    (λ no. tt)

pub feed_leads : (p : List ℕ) (φ : Phase) (b : ℕ) → Spelt p φ → Leads (p ++ (b ∷ [])) (feed φ b)
feed_leads p (at σ g) b h = at_leads p b g σ h
feed_leads p (naming a n) b h =
    cond_leads (p ++ (b ∷ [])) (goes_in_name b) _ _ (on h) (λ no. at_leads p b false (name_after a n) (named p a n h))
  where
    on : Spelt p (naming a n) → goes_in_name b ≡ true → Leads (p ++ (b ∷ [])) (Some (naming a (n ++ (b ∷ []))))
    on (ts, gap, base, k, is, w) e = (ts, gap, base, k, name_on n b is e, more p (written dtd ts) gap n b w)
feed_leads p (word f []) b h = absurd h
feed_leads p (word f (c ∷ left)) b h = cond_leads (p ++ (b ∷ [])) (b == c) _ _ (λ e. word_leads p f c left b h e) (λ no. tt)
feed_leads p (angle ds) b (ts, gap, base, h, w) =
    cond_leads (p ++ (b ∷ [])) (b == 33) _ _
    (λ e. (ts, gap, base, h, more p (written dtd ts) gap (60 ∷ []) b w ∙ ap (λ x. written dtd ts ++ (gap ++ (60 ∷ x ∷ []))) (byte_is b 33 e))) (λ no. tt)
feed_leads p (bang ds) b (ts, gap, base, h, w) =
    cond_leads (p ++ (b ∷ [])) (b == 69) _ _
    (λ e. (
      ts,
      gap,
      60 ∷ 33 ∷ b ∷ [],
      base,
      (λ k. absurd (false≢true k), λ k. h),
      ap (λ x. 60 ∷ 33 ∷ x ∷ codes "LEMENT") (byte_is b 69 e),
      more p (written dtd ts) gap (60 ∷ 33 ∷ []) b w,
    ))
    (λ no. cond_leads (p ++ (b ∷ [])) (b == 45) _ _
    (λ e. (ts, gap, base, h, more p (written dtd ts) gap (60 ∷ 33 ∷ []) b w ∙ ap (λ x. written dtd ts ++ (gap ++ (60 ∷ 33 ∷ x ∷ []))) (byte_is b 45 e))) (λ none. tt))
feed_leads p (bar ds) b (ts, gap, base, h, w) =
    cond_leads (p ++ (b ∷ [])) (b == 45) _ _
    (λ e. (ts, gap, [], base, h, tt, more p (written dtd ts) gap (60 ∷ 33 ∷ 45 ∷ []) b w ∙ ap (λ x. written dtd ts ++ (gap ++ (60 ∷ 33 ∷ 45 ∷ x ∷ []))) (byte_is b 45 e))) (λ no. tt)
feed_leads p (inside ds) b h = inside_leads p ds b h
feed_leads p (dash ds) b h = dash_leads p ds b h
feed_leads p (dashes ds) b h = dashes_leads p ds b h

pub feeds_none : (bs : List ℕ) → feeds bs None ≡ None
feeds_none [] = refl
feeds_none (b ∷ bs) = feeds_none bs

pub feeds_lead : (bs p : List ℕ) (φ : Option Phase) → Leads p φ → Leads (p ++ bs) (feeds bs φ)
feeds_lead [] p φ h = subst (λ q. Leads q φ) (sym (append-nil p)) h
feeds_lead (b ∷ bs) p None h = rw feeds_none tt
feeds_lead (b ∷ bs) p (Some φ) h =
    subst (λ q. Leads q (feeds bs (feed φ b))) (append_assoc p (b ∷ []) bs) (feeds_lead bs (p ++ (b ∷ [])) (feed φ b) (feed_leads p φ b h))

pub start_spelt : Leads [] first
start_spelt = ([], [], (tt, refl, tt, tt, refl), ([], tt, refl), refl, refl)
