-- At one place one sign stands, and signs stand in order. Assumes nothing.
use Rattle.std.proofs.Common.{◌≡◌, ℕ, ◌+◌, ◌<◌, ◌≤◌, ◌⊎◌, inl, inr, Bool, true, false, cond, ◌==◌, List, [], ◌∷◌, ◌++◌, length, take, drop, Some, None, Option, IsSome, is_some, sym, refl, ap, ◌∙◌, subst, arith, length-append}
use Rattle.std.specs.Prelude.{codes}
use Rattle.std.proofs.lemmas.List.{append_assoc, append-nil, take-append-drop, length-take-le}
use Rattle.std.proofs.lemmas.Bool.{false≢true, cases_lt}
use Rattle.std.proofs.Math.Seq.{drop-append_seam}
use Rattle.grammar.specs.Bytes.{is_blank, begins_name, goes_in_name, is_char, Each, IsName, NameEnds}
use Rattle.grammar.specs.Words.Join.{alt, next, both}
use Rattle.grammar.specs.Words.Mark.{optional, repeated, any}
use Rattle.grammar.specs.Words.Sign.{names, empties, opens, closes, suffix, separator}
use Rattle.grammar.specs.Lists.State.{want, got}
use Rattle.grammar.specs.Notations.Notation.{dtd}
use Rattle.grammar.specs.Declarations.{Declaration, Sign, all_signs, sign_bytes}
use Rattle.grammar.specs.Declarations.Sign.{element, declared, empty_word, any_word, pcdata_word, inner, ends}
use Rattle.grammar.specs.Faults.{EndsWell, SignStands}
use Rattle.grammar.specs.Machine.{Spot, spelled, SignFits, Stands, go, spaced, tight, Named, name_before, name_sign, name_after, Fixed, word_before, word_sign, word_after, Phase, sign_at, into, refused, signed, lettered, angled, hashed, feed_at, word_on, feed, feeds, first, Met, OneSign, InOrder, signs_by, SignsRead}
use Rattle.grammar.specs.Machine.Spot.{outside, opened, titled, kids, mixed, wanted, starless, grouped, full}
use Rattle.grammar.specs.Machine.Named.{title, kid, mate}
use Rattle.grammar.specs.Machine.Fixed.{the_element, the_empty, the_any, the_pcdata}
use Rattle.grammar.specs.Machine.Phase.{at, naming, word, angle, bang, bar, inside, dash, dashes}
use Rattle.grammar.proofs.Signs.{Good, Sound, go_sound, no_spot}
use Rattle.grammar.proofs.Spelt.{Spelt, Leads, feed_leads, feeds_lead, feeds_none, name_goes, word_goes, no_cons, byte_is}
use Rattle.grammar.proofs.Fed.{feeds_on, feed_stands, sign_fed, name_goes_on, letter_fed, same_byte}
use Rattle.grammar.proofs.Text.{led}
use Rattle.grammar.proofs.Places.{take_more, signs_met, stands_spelt}

-- signs of one byte
abbrev pub is_byte : Sign → Bool
is_byte (inner opens) = true
is_byte (inner closes) = true
is_byte (inner (suffix m)) = true
is_byte (inner (separator alt)) = true
is_byte (inner (separator next)) = true
is_byte ends = true
is_byte s = false

abbrev ByteOf : Sign → Type 0
ByteOf s = (b : ℕ) × (sign_bytes dtd s ≡ b ∷ []) × (sign_at b ≡ Some s)

pub byte_of : (s : Sign) → is_byte s ≡ true → ByteOf s
byte_of (inner opens) e = (40, refl, refl)
byte_of (inner closes) e = (41, refl, refl)
byte_of (inner (suffix optional)) e = (63, refl, refl)
byte_of (inner (suffix repeated)) e = (43, refl, refl)
byte_of (inner (suffix any)) e = (42, refl, refl)
byte_of (inner (separator alt)) e = (124, refl, refl)
byte_of (inner (separator next)) e = (44, refl, refl)
byte_of ends e = (62, refl, refl)
byte_of s e = absurd (false≢true e)

not_byte : (b c : ℕ) → goes_in_name b ≡ true → goes_in_name c ≡ false → (b == c) ≡ false
not_byte b c e k = either (b == c) refl
  where
    either : (t : Bool) → (b == c) ≡ t → t ≡ false
    either true h = absurd (false≢true (sym k ∙ ap goes_in_name (sym (byte_is b c h)) ∙ e))
    either false h = refl

pub no_name_sign : (b : ℕ) → goes_in_name b ≡ true → sign_at b ≡ None
no_name_sign b e =
    rw (
      not_byte b 40 e refl,
      not_byte b 41 e refl,
      not_byte b 63 e refl,
      not_byte b 43 e refl,
      not_byte b 42 e refl,
      not_byte b 124 e refl,
      not_byte b 44 e refl,
      not_byte b 62 e refl,
    ) refl

name_goes_in : (b : ℕ) → begins_name b ≡ true → goes_in_name b ≡ true
name_goes_in b e = rw e refl

abbrev NoByte : Sign → Type 0
NoByte s = (b : ℕ) × (bs : List ℕ) × (sign_bytes dtd s ≡ b ∷ bs) × (sign_at b ≡ None)

name_no_byte : (n : List ℕ) → IsName n → (b : ℕ) × (bs : List ℕ) × (n ≡ b ∷ bs) × (sign_at b ≡ None)
name_no_byte [] h = absurd h
name_no_byte (b ∷ bs) h = (b, bs, refl, no_name_sign b (name_goes_in b h.0))

no_byte : (s : Sign) → is_byte s ≡ false → SignFits s → NoByte s
no_byte element e h = (60, codes "!ELEMENT", refl, refl)
no_byte (declared n) e h = name_no_byte n h
no_byte empty_word e h = (69, codes "MPTY", refl, refl)
no_byte any_word e h = (65, codes "NY", refl, refl)
no_byte pcdata_word e h = (35, codes "PCDATA", refl, refl)
no_byte (inner (names n)) e h = name_no_byte n h
no_byte (inner empties) e h = absurd h
no_byte (inner (separator both)) e h = absurd h
no_byte s e h = absurd (false≢true (sym e))

abbrev head_of : ℕ → List ℕ → ℕ
head_of d [] = d
head_of d (b ∷ bs) = b

-- the signs that take more bytes
abbrev Other : Spot → Sign → Type 0
Other (outside ds) s = s ≡ element
Other (opened ds) s = (n : List ℕ) × (s ≡ declared n) × IsName n
Other (titled ds n) s = (s ≡ empty_word) ⊎ (s ≡ any_word)
Other (kids ds n σ) s = ((m : List ℕ) × (s ≡ inner (names m)) × IsName m) ⊎ (s ≡ pcdata_word)
Other (wanted ds n ns) s = (m : List ℕ) × (s ≡ inner (names m)) × IsName m
Other σ s = ⊥

other : (σ : Spot) (s : Sign) (ρ : Spot) → go σ s ≡ Some ρ → is_byte s ≡ false → SignFits s → Other σ s
other (outside ds) element ρ e k h = refl
other (outside ds) s ρ e k h = no_spot ρ e
other (opened ds) (declared n) ρ e k h = (n, refl, h)
other (opened ds) s ρ e k h = no_spot ρ e
other (titled ds n) empty_word ρ e k h = inl refl
other (titled ds n) any_word ρ e k h = inr refl
other (titled ds n) (inner opens) ρ e k h = absurd (false≢true (sym k))
other (titled ds n) s ρ e k h = no_spot ρ e
other (kids ds n σ) pcdata_word ρ e k h = inr refl
other (kids ds n σ) (inner (names m)) ρ e k h = inl (m, refl, h)
other (kids ds n σ) (inner empties) ρ e k h = absurd h
other (kids ds n σ) (inner (separator both)) ρ e k h = absurd h
other (kids ds n σ) (inner (separator alt)) ρ e k h = absurd (false≢true (sym k))
other (kids ds n σ) (inner (separator next)) ρ e k h = absurd (false≢true (sym k))
other (kids ds n σ) (inner opens) ρ e k h = absurd (false≢true (sym k))
other (kids ds n σ) (inner closes) ρ e k h = absurd (false≢true (sym k))
other (kids ds n σ) (inner (suffix m)) ρ e k h = absurd (false≢true (sym k))
other (kids ds n σ) s ρ e k h = no_spot ρ e
other (mixed ds n ns) (inner (separator alt)) ρ e k h = absurd (false≢true (sym k))
other (mixed ds n ns) (inner closes) ρ e k h = absurd (false≢true (sym k))
other (mixed ds n ns) s ρ e k h = no_spot ρ e
other (wanted ds n ns) (inner (names m)) ρ e k h = (m, refl, h)
other (wanted ds n ns) s ρ e k h = no_spot ρ e
other (starless ds n ns) (inner (suffix m)) ρ e k h = absurd (false≢true (sym k))
other (starless ds n ns) ends ρ e k h = absurd (false≢true (sym k))
other (starless ds n ns) s ρ e k h = no_spot ρ e
other (grouped ds n v) (inner (suffix m)) ρ e k h = absurd (false≢true (sym k))
other (grouped ds n v) ends ρ e k h = absurd (false≢true (sym k))
other (grouped ds n v) s ρ e k h = no_spot ρ e
other (full ds n c) ends ρ e k h = absurd (false≢true (sym k))
other (full ds n c) s ρ e k h = no_spot ρ e

-- a whole name
pub tail_same : (b c : ℕ) (bs cs : List ℕ) → b ∷ bs ≡ c ∷ cs → bs ≡ cs
tail_same b c bs cs e = ap (λ xs. elim xs [ [] ↦ bs | y ∷ ys ↦ ys ]) e

pub head_same : (b c : ℕ) (bs cs : List ℕ) → b ∷ bs ≡ c ∷ cs → b ≡ c
head_same b c bs cs e = ap (λ xs. elim xs [ [] ↦ b | y ∷ ys ↦ y ]) e

ends_not : (c : ℕ) (xs ys : List ℕ) → xs ≡ c ∷ ys → NameEnds xs → goes_in_name c ≡ true → ⊥
ends_not c [] ys e h k = no_cons c ys (sym e)
ends_not c (x ∷ xs) ys e h k = false≢true (sym h ∙ ap goes_in_name (head_same x c xs ys e) ∙ k)

run_same : (n m xs ys : List ℕ) → Each goes_in_name n → Each goes_in_name m → n ++ xs ≡ m ++ ys → NameEnds xs → NameEnds ys → n ≡ m
run_same [] [] xs ys h k e p q = refl
run_same [] (c ∷ m) xs ys h k e p q = absurd (ends_not c xs (m ++ ys) e p k.0)
run_same (b ∷ n) [] xs ys h k e p q = absurd (ends_not b ys (n ++ xs) (sym e) q h.0)
run_same (b ∷ n) (c ∷ m) xs ys h k e p q =
    ap (λ x. x ∷ n) (head_same b c (n ++ xs) (m ++ ys) e) ∙ ap (λ x. c ∷ x) (run_same n m xs ys h.1 k.1 (tail_same b c (n ++ xs) (m ++ ys) e) p q)

name_each : (n : List ℕ) → IsName n → Each goes_in_name n
name_each [] h = absurd h
name_each (b ∷ bs) h = (name_goes_in b h.0, h.1)

-- #PCDATA and a name
pcdata_name : (m xs ys : List ℕ) → IsName m → m ++ xs ≡ codes "#PCDATA" ++ ys → ⊥
pcdata_name [] xs ys h e = h
pcdata_name (b ∷ bs) xs ys h e = false≢true (ap begins_name (sym (head_same b 35 (bs ++ xs) (codes "PCDATA" ++ ys) e)) ∙ h.0)

both_others : (σ : Spot) (s r : Sign) (xs ys : List ℕ) → Other σ s → Other σ r → sign_bytes dtd s ++ xs ≡ sign_bytes dtd r ++ ys → EndsWell s xs → EndsWell r ys → s ≡ r
both_others (outside ds) s r xs ys h k e p q = h ∙ sym k
both_others (opened ds) s r xs ys (n, is, good) (m, same, well) e p q =
    is ∙ ap (λ x. declared x)
    (run_same n m xs ys (name_each n good) (name_each m well) (ap (λ x. sign_bytes dtd x ++ xs) (sym is) ∙ e ∙ ap (λ x. sign_bytes dtd x ++ ys) same)
    (subst (λ x. EndsWell x xs) is p) (subst (λ x. EndsWell x ys) same q)) ∙ sym same
both_others (titled ds n) s r xs ys (inl h) (inl k) e p q = h ∙ sym k
both_others (titled ds n) s r xs ys (inl h) (inr k) e p q =
    absurd (false≢true (ap (λ x. head_of 0 x == 65) (ap (λ x. sign_bytes dtd x ++ xs) (sym h) ∙ e ∙ ap (λ x. sign_bytes dtd x ++ ys) k)))
both_others (titled ds n) s r xs ys (inr h) (inl k) e p q =
    absurd (false≢true (ap (λ x. head_of 0 x == 69) (ap (λ x. sign_bytes dtd x ++ xs) (sym h) ∙ e ∙ ap (λ x. sign_bytes dtd x ++ ys) k)))
both_others (titled ds n) s r xs ys (inr h) (inr k) e p q = h ∙ sym k
both_others (kids ds n σ) s r xs ys (inl (m, is, good)) (inl (l, same, well)) e p q =
    is ∙ ap (λ x. inner (names x))
    (run_same m l xs ys (name_each m good) (name_each l well) (ap (λ x. sign_bytes dtd x ++ xs) (sym is) ∙ e ∙ ap (λ x. sign_bytes dtd x ++ ys) same)
    (subst (λ x. EndsWell x xs) is p) (subst (λ x. EndsWell x ys) same q)) ∙ sym same
both_others (kids ds n σ) s r xs ys (inl (m, is, good)) (inr k) e p q =
    absurd (pcdata_name m xs ys good (ap (λ x. sign_bytes dtd x ++ xs) (sym is) ∙ e ∙ ap (λ x. sign_bytes dtd x ++ ys) k))
both_others (kids ds n σ) s r xs ys (inr h) (inl (l, same, well)) e p q =
    absurd (pcdata_name l ys xs well (ap (λ x. sign_bytes dtd x ++ ys) (sym same) ∙ sym e ∙ ap (λ x. sign_bytes dtd x ++ xs) h))
both_others (kids ds n σ) s r xs ys (inr h) (inr k) e p q = h ∙ sym k
both_others (wanted ds n ns) s r xs ys (m, is, good) (l, same, well) e p q =
    is ∙ ap (λ x. inner (names x))
    (run_same m l xs ys (name_each m good) (name_each l well) (ap (λ x. sign_bytes dtd x ++ xs) (sym is) ∙ e ∙ ap (λ x. sign_bytes dtd x ++ ys) same)
    (subst (λ x. EndsWell x xs) is p) (subst (λ x. EndsWell x ys) same q)) ∙ sym same
both_others (mixed ds n ns) s r xs ys h k e p q = absurd h
both_others (starless ds n ns) s r xs ys h k e p q = absurd h
both_others (grouped ds n v) s r xs ys h k e p q = absurd h
both_others (full ds n c) s r xs ys h k e p q = absurd h

-- two bytes, or one and a sign of more
some_same : (s r : Sign) → Some s ≡ Some r → s ≡ r
some_same s r e = ap (λ x. elim x [ None ↦ s | Some t ↦ t ]) e

both_bytes : (s r : Sign) (xs ys : List ℕ) → ByteOf s → ByteOf r → sign_bytes dtd s ++ xs ≡ sign_bytes dtd r ++ ys → s ≡ r
both_bytes s r xs ys (b, is, h) (c, same, k) e =
    some_same s r (sym h ∙ ap sign_at (head_same b c xs ys (ap (λ x. x ++ xs) (sym is) ∙ e ∙ ap (λ x. x ++ ys) same)) ∙ k)

pub no_sign : {X : Type 0} (s : Sign) → None ≡ Some s → X
no_sign s e = absurd (false≢true (ap is_some e))

byte_and_other : {X : Type 0} (s r : Sign) (xs ys : List ℕ) → ByteOf s → NoByte r → sign_bytes dtd s ++ xs ≡ sign_bytes dtd r ++ ys → X
byte_and_other s r xs ys (b, is, h) (c, cs, same, k) e =
    no_sign s (sym k ∙ ap sign_at (sym (head_same b c xs (cs ++ ys) (ap (λ x. x ++ xs) (sym is) ∙ e ∙ ap (λ x. x ++ ys) same))) ∙ h)

taken_same : (σ ρ τ : Spot) (s r : Sign) (xs ys : List ℕ) → go σ s ≡ Some ρ → go σ r ≡ Some τ → SignFits s → SignFits r
    → sign_bytes dtd s ++ xs ≡ sign_bytes dtd r ++ ys → EndsWell s xs → EndsWell r ys → s ≡ r
taken_same σ ρ τ s r xs ys h k fit fits e p q = either (is_byte s) (is_byte r) refl refl
  where
    either : (t u : Bool) → is_byte s ≡ t → is_byte r ≡ u → s ≡ r
    either true true x y = both_bytes s r xs ys (byte_of s x) (byte_of r y) e
    either true false x y = byte_and_other s r xs ys (byte_of s x) (no_byte r y fits) e
    either false true x y = byte_and_other r s ys xs (byte_of r y) (no_byte s x fit) (sym e)
    either false false x y = both_others σ s r xs ys (other σ s ρ h x fit) (other σ r τ k y fits) e p q

-- one phase stands at one spot
stands_one : (φ : Phase) (σ τ : Spot) (h k : Bool) → Stands φ σ h → Stands φ τ k → σ ≡ τ
stands_one (at ρ g) σ τ h k st su = sym st.0 ∙ su.0
stands_one (naming a n) σ τ h k st su = sym st.0 ∙ su.0
stands_one (word f left) σ τ h k st su = absurd st
stands_one (angle ds) σ τ h k st su = absurd st
stands_one (bang ds) σ τ h k st su = absurd st
stands_one (bar ds) σ τ h k st su = absurd st
stands_one (inside ds) σ τ h k st su = absurd st
stands_one (dash ds) σ τ h k st su = absurd st
stands_one (dashes ds) σ τ h k st su = absurd st

phase_same : (φ ψ : Phase) → Some φ ≡ Some ψ → φ ≡ ψ
phase_same φ ψ e = ap (λ x. elim x [ None ↦ φ | Some χ ↦ χ ]) e

the_spot : (σ : Spot) (s : Sign) → IsSome (go σ s) → (τ : Spot) × (go σ s ≡ Some τ)
the_spot σ s h = out (go σ s) h
  where
    out : (o : Option Spot) → IsSome o → (τ : Spot) × (o ≡ Some τ)
    out None k = absurd (false≢true k)
    out (Some τ) k = (τ, refl)

met_one : (bytes : List ℕ) (q : ℕ) (ss rs : List Sign) (s r : Sign) → Met bytes q ss s → Met bytes q rs r → (ss ≡ rs) × (s ≡ r)
met_one bytes q ss rs s r (φ, σ, h, xs, le, e, st, read, r1, some, is, d, well) (ψ, τ, k, ys, le2, e2, su, read2, r2, some2, is2, d2, well2) =
    let spot : σ ≡ τ = stands_one ψ σ τ h k (subst (λ χ. Stands χ σ h) (phase_same φ ψ (sym e ∙ e2)) st) su in
    let (ρ, goes) = the_spot σ s some in
    let (π, goes2) = the_spot τ r some2 in (
      sym read ∙ ap spelled spot ∙ read2,
      taken_same τ ρ π s r xs ys (ap (λ x. go x s) (sym spot) ∙ goes) goes2 is is2 (sym d ∙ d2) well well2,
    )

pub one_sign : OneSign
one_sign bytes q ss rs s r h k = met_one bytes q ss rs s r ((signs_met bytes q ss s).0 h) ((signs_met bytes q rs r).0 k)

-- the signs that a phase has read, all but a name at its end
abbrev before : Phase → List Sign
before (at σ g) = spelled σ
before (naming a n) = spelled (name_before a)
before (word f left) = spelled (word_before f)
before (angle ds) = all_signs ds
before (bang ds) = all_signs ds
before (bar ds) = all_signs ds
before (inside ds) = all_signs ds
before (dash ds) = all_signs ds
before (dashes ds) = all_signs ds

abbrev Starts : List Sign → List Sign → Type 0
Starts ss rs = (more : List Sign) × (rs ≡ ss ++ more)

as_far : (ss : List Sign) → Starts ss ss
as_far ss = ([], sym (append-nil ss))

still_starts : (ss rs us : List Sign) → Starts ss rs → Starts rs us → Starts ss us
still_starts ss rs us (more, e) (less, k) = (more ++ less, k ∙ ap (λ xs. xs ++ less) e ∙ append_assoc ss more less)

abbrev Onward : List Sign → Option Phase → Type 0
Onward ss None = Unit {0}
Onward ss (Some ψ) = Starts ss (before ψ)

cond_onward : (ss : List Sign) (t : Bool) (x y : Option Phase) → Onward ss x → Onward ss y → Onward ss (cond t x y)
cond_onward ss true x y h k = h
cond_onward ss false x y h k = k

into_onward : (σ : Spot) (s : Sign) (o : Option Spot) → Sound σ s o → Onward (spelled σ) (into o)
into_onward σ s None h = tt
into_onward σ s (Some τ) h = (s ∷ [], h.0)

signed_onward : (g : Bool) (σ : Spot) (o : Option Sign) → Good σ → Onward (spelled σ) (signed g σ o)
signed_onward g σ None h = tt
signed_onward g σ (Some s) h = cond_onward (spelled σ) (refused g σ s) None _ tt (into_onward σ s (go σ s) (go_sound σ s h))

lettered_onward : (σ : Spot) (g : Bool) (b : ℕ) → Onward (spelled σ) (lettered σ g b)
lettered_onward (opened ds) g b = cond_onward _ g _ None (as_far _) tt
lettered_onward (titled ds n) g b = cond_onward _ g _ None (cond_onward _ (b == 69) _ _ (as_far _) (cond_onward _ (b == 65) _ None (as_far _) tt)) tt
lettered_onward (kids ds n (want o l)) g b = as_far _
lettered_onward (kids ds n (got o l w)) g b = tt
lettered_onward (wanted ds n ns) g b = as_far _
lettered_onward (outside ds) g b = tt
lettered_onward (mixed ds n ns) g b = tt
lettered_onward (starless ds n ns) g b = tt
lettered_onward (grouped ds n v) g b = tt
lettered_onward (full ds n c) g b = tt

angled_onward : (σ : Spot) → Onward (spelled σ) (angled σ)
angled_onward (outside ds) = as_far _
angled_onward σ = tt

hashed_onward : (σ : Spot) → Onward (spelled σ) (hashed σ)
hashed_onward (kids ds n (want [] None)) = as_far _
hashed_onward (kids ds n (want [] (Some x))) = tt
hashed_onward (kids ds n (want (k ∷ o) l)) = tt
hashed_onward (kids ds n (got o l w)) = tt
hashed_onward σ = tt

at_onward : (σ : Spot) (g : Bool) (b : ℕ) → Good σ → Onward (spelled σ) (feed_at σ g b)
at_onward σ g b h =
    cond_onward _ (is_blank b) _ _ (cond_onward _ (tight σ) None (Some (at σ true)) tt (as_far _))
    (cond_onward _ (begins_name b) _ _ (lettered_onward σ g b)
    (cond_onward _ (b == 60) _ _ (angled_onward σ) (cond_onward _ (b == 35) _ _ (hashed_onward σ) (signed_onward g σ (sign_at b) h))))

pub name_spells : (a : Named) (n : List ℕ) → Good (name_before a) → (spelled (name_after a n) ≡ spelled (name_before a) ++ (name_sign a n ∷ [])) × Good (name_after a n)
name_spells a n h =
    let sound : Sound (name_before a) (name_sign a n) (Some (name_after a n)) = subst (Sound (name_before a) (name_sign a n)) (name_goes a n) (go_sound _ _ h) in
    (sound.0, sound.1)

pub word_spells : (f : Fixed) → Good (word_before f) → spelled (word_after f) ≡ spelled (word_before f) ++ (word_sign f ∷ [])
word_spells f h =
    let sound : Sound (word_before f) (word_sign f) (Some (word_after f)) = subst (Sound (word_before f) (word_sign f)) (word_goes f) (go_sound _ _ h) in
    sound.0

onward_from : (ss rs : List Sign) (o : Option Phase) → Starts ss rs → Onward rs o → Onward ss o
onward_from ss rs None h k = tt
onward_from ss rs (Some ψ) h k = still_starts ss rs (before ψ) h k

word_onward : (f : Fixed) (left : List ℕ) → Good (word_before f) → Starts (spelled (word_before f)) (before (word_on f left))
word_onward f [] h = (word_sign f ∷ [], word_spells f h)
word_onward f (c ∷ left) h = as_far _

feed_onward : (p : List ℕ) (φ : Phase) (b : ℕ) → Spelt p φ → Onward (before φ) (feed φ b)
feed_onward p (at σ g) b (ts, gap, base, h, t, w) = at_onward σ g b base.0
feed_onward p (naming a n) b (ts, gap, base, h, is, w) =
    let (spells, good) = name_spells a n base.0 in
    cond_onward _ (goes_in_name b) _ _ (as_far _) (onward_from _ (spelled (name_after a n)) _ (name_sign a n ∷ [], spells) (at_onward (name_after a n) false b good))
feed_onward p (word f []) b h = tt
feed_onward p (word f (c ∷ left)) b (ts, gap, done, base, fit, is, w) = cond_onward _ (b == c) _ _ (word_onward f left base.0) tt
feed_onward p (angle ds) b h = cond_onward _ (b == 33) _ _ (as_far _) tt
feed_onward p (bang ds) b h = cond_onward _ (b == 69) _ _ (as_far _) (cond_onward _ (b == 45) _ _ (as_far _) tt)
feed_onward p (bar ds) b h = cond_onward _ (b == 45) _ _ (as_far _) tt
feed_onward p (inside ds) b h = cond_onward _ (b == 45) _ _ (as_far _) (cond_onward _ (is_char b) _ _ (as_far _) tt)
feed_onward p (dash ds) b h = cond_onward _ (b == 45) _ _ (as_far _) (cond_onward _ (is_char b) _ _ (as_far _) tt)
feed_onward p (dashes ds) b h = cond_onward _ (b == 62) _ _ (as_far _) tt

feeds_onward : (bs p : List ℕ) (ss : List Sign) (o : Option Phase) → Leads p o → Onward ss o → Onward ss (feeds bs o)
feeds_onward [] p ss o h k = k
feeds_onward (b ∷ bs) p ss None h k = rw feeds_none tt
feeds_onward (b ∷ bs) p ss (Some φ) h k =
    feeds_onward bs (p ++ (b ∷ [])) ss (feed φ b) (feed_leads p φ b h) (onward_from ss (before φ) (feed φ b) k (feed_onward p φ b h))

-- the byte behind a sign
abbrev pub end_of : List Sign → Sign
end_of [] = ends
end_of (s ∷ []) = s
end_of (s ∷ t ∷ ss) = end_of (t ∷ ss)

pub end_is : (ss : List Sign) (s : Sign) → end_of (ss ++ (s ∷ [])) ≡ s
end_is [] s = refl
end_is (r ∷ []) s = refl
end_is (r ∷ t ∷ ss) s = end_is (t ∷ ss) s

name_ends : (a : Named) (n : List ℕ) (b : ℕ) (rest : List ℕ) → EndsWell (name_sign a n) (b ∷ rest) → goes_in_name b ≡ false
name_ends (title ds) n b rest h = h
name_ends (kid ds m o l) n b rest h = h
name_ends (mate ds m ns) n b rest h = h

behind_sign : (p : List ℕ) (χ : Phase) (σ τ : Spot) (s : Sign) (b : ℕ) (rest : List ℕ) → Spelt p χ → Stands χ τ false → spelled τ ≡ spelled σ ++ (s ∷ [])
    → EndsWell s (b ∷ rest) → feed χ b ≡ feed_at τ false b
behind_sign p (at ρ g) σ τ s b rest k st e well = ap (λ x. feed_at x g b) st.0 ∙ ap (λ x. feed_at τ x b) st.1
behind_sign p (naming a n) σ τ s b rest (ts, gap, base, h, is, w) st e well =
    let same : name_sign a n ≡ s =
    sym (end_is (spelled (name_before a)) (name_sign a n)) ∙ ap end_of (sym (name_spells a n base.0).0 ∙ ap spelled st.0 ∙ e) ∙ end_is (spelled σ) s in
    feed_stands (naming a n) τ false b st (inl (name_ends a n b rest (subst (λ x. EndsWell x (b ∷ rest)) (sym same) well)))
behind_sign p (word f left) σ τ s b rest k st e well = absurd st
behind_sign p (angle ds) σ τ s b rest k st e well = absurd st
behind_sign p (bang ds) σ τ s b rest k st e well = absurd st
behind_sign p (bar ds) σ τ s b rest k st e well = absurd st
behind_sign p (inside ds) σ τ s b rest k st e well = absurd st
behind_sign p (dash ds) σ τ s b rest k st e well = absurd st
behind_sign p (dashes ds) σ τ s b rest k st e well = absurd st

-- what is read behind a sign has the sign
stands_by : (φ : Phase) (σ : Spot) (h : Bool) → Stands φ σ h → signs_by φ ≡ spelled σ
stands_by (at τ g) σ h st = ap spelled st.0
stands_by (naming a n) σ h st = ap spelled st.0
stands_by (word f left) σ h st = absurd st
stands_by (angle ds) σ h st = absurd st
stands_by (bang ds) σ h st = absurd st
stands_by (bar ds) σ h st = absurd st
stands_by (inside ds) σ h st = absurd st
stands_by (dash ds) σ h st = absurd st
stands_by (dashes ds) σ h st = absurd st

before_by : (p : List ℕ) (φ : Phase) → Spelt p φ → Starts (before φ) (signs_by φ)
before_by p (at σ g) h = as_far _
before_by p (naming a n) (ts, gap, base, h, is, w) = (name_sign a n ∷ [], (name_spells a n base.0).0)
before_by p (word f left) h = as_far _
before_by p (angle ds) h = as_far _
before_by p (bang ds) h = as_far _
before_by p (bar ds) h = as_far _
before_by p (inside ds) h = as_far _
before_by p (dash ds) h = as_far _
before_by p (dashes ds) h = as_far _

later : (zs p tail : List ℕ) (χ ψ : Phase) (σ τ : Spot) (s : Sign) → Spelt p χ → Good τ → Stands χ τ false → spelled τ ≡ spelled σ ++ (s ∷ [])
    → EndsWell s (zs ++ tail) → feeds zs (Some χ) ≡ Some ψ → Spelt (p ++ zs) ψ → Starts (spelled τ) (signs_by ψ)
later [] p tail χ ψ σ τ s k good st e well fed k2 =
    subst (Starts (spelled τ)) (sym (stands_by ψ τ false (subst (λ x. Stands x τ false) (phase_same χ ψ fed) st))) (as_far _)
later (b ∷ zs) p tail χ ψ σ τ s k good st e well fed k2 =
    let first_byte : feed χ b ≡ feed_at τ false b = behind_sign p χ σ τ s b (zs ++ tail) k st e well in
    let on : Onward (spelled τ) (feeds zs (feed χ b)) =
    feeds_onward zs (p ++ (b ∷ [])) (spelled τ) (feed χ b) (feed_leads p χ b k) (subst (Onward (spelled τ)) (sym first_byte) (at_onward τ false b good)) in
    still_starts (spelled τ) (before ψ) (signs_by ψ) (subst (Onward (spelled τ)) fed on) (before_by _ ψ k2)

-- within the bytes of a sign only a name stands
abbrev InName : Phase → ℕ → Type 0
InName φ c = (a : Named) × (n : List ℕ) × (φ ≡ naming a n) × (goes_in_name c ≡ true)

no_more : {X : Type 0} (xs : List ℕ) (c : ℕ) (ys : List ℕ) → [] ≡ xs ++ (c ∷ ys) → X
no_more [] c ys e = no_cons c ys (sym e)
no_more (x ∷ xs) c ys e = no_cons x (xs ++ (c ∷ ys)) (sym e)

word_part : (xs : List ℕ) (f : Fixed) (c : ℕ) (ys : List ℕ) → feeds xs (Some (word f (xs ++ (c ∷ ys)))) ≡ Some (word f (c ∷ ys))
word_part [] f c ys = refl
word_part (x ∷ []) f c ys = let one : feed (word f (x ∷ c ∷ ys)) x ≡ Some (word f (c ∷ ys)) = rw (same_byte x) refl in one
word_part (x ∷ y ∷ xs) f c ys =
    let one : feed (word f (x ∷ y ∷ (xs ++ (c ∷ ys)))) x ≡ Some (word f (y ∷ (xs ++ (c ∷ ys)))) = rw (same_byte x) refl in
    ap (feeds (y ∷ xs)) one ∙ word_part (y ∷ xs) f c ys

no_stand : {X : Type 0} (φ ψ : Phase) (σ : Spot) (h : Bool) → Some φ ≡ Some ψ → (Stands φ σ h → ⊥) → Stands ψ σ h → X
no_stand φ ψ σ h e k st = absurd (k (subst (λ x. Stands x σ h) (sym (phase_same φ ψ e)) st))

in_word : (f : Fixed) (w xs : List ℕ) (c : ℕ) (ys : List ℕ) (ψ : Phase) (σ : Spot) (h : Bool) → w ≡ xs ++ (c ∷ ys) → feeds xs (Some (word f w)) ≡ Some ψ → Stands ψ σ h → InName ψ c
in_word f w xs c ys ψ σ h e fed st =
    no_stand (word f (c ∷ ys)) ψ σ h (sym (word_part xs f c ys) ∙ ap (λ x. feeds xs (Some (word f x))) (sym e) ∙ fed) (λ x. x) st

in_element : (ds : List Declaration) (xs : List ℕ) (c : ℕ) (ys : List ℕ) (ψ : Phase) (σ : Spot) (h : Bool) → codes "!ELEMENT" ≡ xs ++ (c ∷ ys)
    → feeds xs (Some (angle ds)) ≡ Some ψ → Stands ψ σ h → InName ψ c
in_element ds [] c ys ψ σ h e fed st = no_stand (angle ds) ψ σ h fed (λ x. x) st
in_element ds (x ∷ []) c ys ψ σ h e fed st =
    let is : 33 ≡ x = head_same 33 x (codes "ELEMENT") (c ∷ ys) e in
    no_stand (bang ds) ψ σ h (ap (λ y. feeds (y ∷ []) (Some (angle ds))) is ∙ fed) (λ x. x) st
in_element ds (x ∷ y ∷ xs) c ys ψ σ h e fed st =
    let is : 33 ≡ x = head_same 33 x (codes "ELEMENT") (y ∷ (xs ++ (c ∷ ys))) e in
    let rest : codes "ELEMENT" ≡ y ∷ (xs ++ (c ∷ ys)) = tail_same 33 x (codes "ELEMENT") (y ∷ (xs ++ (c ∷ ys))) e in
    let same : 69 ≡ y = head_same 69 y (codes "LEMENT") (xs ++ (c ∷ ys)) rest in
    in_word (the_element ds) (codes "LEMENT") xs c ys ψ σ h (tail_same 69 y (codes "LEMENT") (xs ++ (c ∷ ys)) rest)
    (ap (λ z. feeds (33 ∷ z ∷ xs) (Some (angle ds))) same ∙ ap (λ z. feeds (z ∷ y ∷ xs) (Some (angle ds))) is ∙ fed) st

Each-there : (xs : List ℕ) (c : ℕ) (ys : List ℕ) → Each goes_in_name (xs ++ (c ∷ ys)) → goes_in_name c ≡ true
Each-there [] c ys h = h.0
Each-there (x ∷ xs) c ys h = Each-there xs c ys h.1

Each-front : (xs ys : List ℕ) → Each goes_in_name (xs ++ ys) → Each goes_in_name xs
Each-front [] ys h = tt
Each-front (x ∷ xs) ys h = (h.0, Each-front xs ys h.1)

-- a sign's first byte, and others of it, but not all
in_name : (a : Named) (b : ℕ) (xs : List ℕ) (c : ℕ) (ys : List ℕ) (φ ψ : Phase) (σ : Spot) (h : Bool) → IsName (b ∷ (xs ++ (c ∷ ys)))
    → feed φ b ≡ Some (naming a (b ∷ [])) → feeds (b ∷ xs) (Some φ) ≡ Some ψ → InName ψ c
in_name a b xs c ys φ ψ σ h is one fed =
    (a, b ∷ xs, phase_same ψ _ (sym fed ∙ ap (feeds xs) one ∙ name_goes_on xs a (b ∷ []) (Each-front xs (c ∷ ys) is.1)), Each-there xs c ys is.1)

-- of the bytes w these have been read, and not all
abbrev Within : List ℕ → ℕ → List ℕ → ℕ → List ℕ → Type 0
Within w b xs c ys = w ≡ b ∷ (xs ++ (c ∷ ys))

in_fixed : (f : Fixed) (d : ℕ) (left : List ℕ) (b : ℕ) (xs : List ℕ) (c : ℕ) (ys : List ℕ) (φ ψ : Phase) (ρ : Spot) (k : Bool)
    → d ∷ left ≡ b ∷ (xs ++ (c ∷ ys)) → feed φ d ≡ Some (word f left) → feeds (b ∷ xs) (Some φ) ≡ Some ψ → Stands ψ ρ k → InName ψ c
in_fixed f d left b xs c ys φ ψ ρ k all one fed su =
    in_word f left xs c ys ψ ρ k (tail_same d b left (xs ++ (c ∷ ys)) all)
    (sym (ap (feeds xs) (ap (feed φ) (sym (head_same d b left (xs ++ (c ∷ ys)) all)) ∙ one)) ∙ fed) su

in_letters : (a : Named) (m : List ℕ) (σ : Spot) (h : Bool) (b : ℕ) (xs : List ℕ) (c : ℕ) (ys : List ℕ) (φ ψ : Phase) → IsName m → m ≡ b ∷ (xs ++ (c ∷ ys))
    → ((d : ℕ) → begins_name d ≡ true → feed φ d ≡ Some (naming a (d ∷ []))) → feeds (b ∷ xs) (Some φ) ≡ Some ψ → InName ψ c
in_letters a m σ h b xs c ys φ ψ good all one fed =
    let is : IsName (b ∷ (xs ++ (c ∷ ys))) = subst IsName all good in
    in_name a b xs c ys φ ψ σ h is (one b is.0) fed

inside_other : (σ τ : Spot) (s : Sign) (h : Bool) (b : ℕ) (xs : List ℕ) (c : ℕ) (ys : List ℕ) (φ ψ : Phase) (ρ : Spot) (k : Bool) → Other σ s → go σ s ≡ Some τ
    → Stands φ σ h → refused h σ s ≡ false → Within (sign_bytes dtd s) b xs c ys → feeds (b ∷ xs) (Some φ) ≡ Some ψ → Stands ψ ρ k → InName ψ c
inside_other (outside ds) τ s h b xs c ys φ ψ ρ k o e st r all fed su =
    let word : codes "<!ELEMENT" ≡ b ∷ (xs ++ (c ∷ ys)) = ap (sign_bytes dtd) (sym o) ∙ all in
    let one : feed φ b ≡ Some (angle ds) = ap (feed φ) (sym (head_same 60 b (codes "!ELEMENT") (xs ++ (c ∷ ys)) word)) ∙ feed_stands φ (outside ds) h 60 st (inl refl) in
    in_element ds xs c ys ψ ρ k (tail_same 60 b (codes "!ELEMENT") (xs ++ (c ∷ ys)) word) (sym (ap (feeds xs) one) ∙ fed) su
inside_other (opened ds) τ s true b xs c ys φ ψ ρ k (m, is, good) e st r all fed su =
    in_letters (title ds) m (opened ds) true b xs c ys φ ψ good (ap (sign_bytes dtd) (sym is) ∙ all)
    (λ d begin. feed_stands φ (opened ds) true d st (inr refl) ∙ letter_fed (opened ds) true d begin) fed
inside_other (opened ds) τ s false b xs c ys φ ψ ρ k o e st r all fed su = absurd (false≢true (sym r))
inside_other (titled ds n) τ s true b xs c ys φ ψ ρ k (inl is) e st r all fed su =
    in_fixed (the_empty ds n) 69 (codes "MPTY") b xs c ys φ ψ ρ k (ap (sign_bytes dtd) (sym is) ∙ all) (feed_stands φ (titled ds n) true 69 st (inr refl)) fed su
inside_other (titled ds n) τ s true b xs c ys φ ψ ρ k (inr is) e st r all fed su =
    in_fixed (the_any ds n) 65 (codes "NY") b xs c ys φ ψ ρ k (ap (sign_bytes dtd) (sym is) ∙ all) (feed_stands φ (titled ds n) true 65 st (inr refl)) fed su
inside_other (titled ds n) τ s false b xs c ys φ ψ ρ k o e st r all fed su = absurd (false≢true (sym r))
inside_other (kids ds n (want o l)) τ s h b xs c ys φ ψ ρ k (inl (m, is, good)) e st r all fed su =
    in_letters (kid ds n o l) m (kids ds n (want o l)) h b xs c ys φ ψ good (ap (sign_bytes dtd) (sym is) ∙ all)
    (λ d begin. feed_stands φ (kids ds n (want o l)) h d st (inr refl) ∙ letter_fed (kids ds n (want o l)) h d begin) fed
inside_other (kids ds n (got o l w)) τ s h b xs c ys φ ψ ρ k (inl (m, is, good)) e st r all fed su =
    no_spot τ (ap (go (kids ds n (got o l w))) (sym is) ∙ e)
inside_other (kids ds n (want [] None)) τ s h b xs c ys φ ψ ρ k (inr is) e st r all fed su =
    in_fixed (the_pcdata ds n) 35 (codes "PCDATA") b xs c ys φ ψ ρ k (ap (sign_bytes dtd) (sym is) ∙ all) (feed_stands φ (kids ds n (want [] None)) h 35 st (inl refl)) fed su
inside_other (kids ds n (want [] (Some x))) τ s h b xs c ys φ ψ ρ k (inr is) e st r all fed su = no_spot τ (ap (go (kids ds n (want [] (Some x)))) (sym is) ∙ e)
inside_other (kids ds n (want (j ∷ o) l)) τ s h b xs c ys φ ψ ρ k (inr is) e st r all fed su = no_spot τ (ap (go (kids ds n (want (j ∷ o) l))) (sym is) ∙ e)
inside_other (kids ds n (got o l w)) τ s h b xs c ys φ ψ ρ k (inr is) e st r all fed su = no_spot τ (ap (go (kids ds n (got o l w))) (sym is) ∙ e)
inside_other (wanted ds n ns) τ s h b xs c ys φ ψ ρ k (m, is, good) e st r all fed su =
    in_letters (mate ds n ns) m (wanted ds n ns) h b xs c ys φ ψ good (ap (sign_bytes dtd) (sym is) ∙ all)
    (λ d begin. feed_stands φ (wanted ds n ns) h d st (inr refl) ∙ letter_fed (wanted ds n ns) h d begin) fed
inside_other (mixed ds n ns) τ s h b xs c ys φ ψ ρ k o e st r all fed su = absurd o
inside_other (starless ds n ns) τ s h b xs c ys φ ψ ρ k o e st r all fed su = absurd o
inside_other (grouped ds n v) τ s h b xs c ys φ ψ ρ k o e st r all fed su = absurd o
inside_other (full ds n v) τ s h b xs c ys φ ψ ρ k o e st r all fed su = absurd o

inside_sign : (σ τ : Spot) (s : Sign) (h : Bool) (b : ℕ) (xs : List ℕ) (c : ℕ) (ys : List ℕ) (φ ψ : Phase) (ρ : Spot) (k : Bool) → go σ s ≡ Some τ → SignFits s
    → Stands φ σ h → refused h σ s ≡ false → Within (sign_bytes dtd s) b xs c ys → feeds (b ∷ xs) (Some φ) ≡ Some ψ → Stands ψ ρ k → InName ψ c
inside_sign σ τ s h b xs c ys φ ψ ρ k e fit st r all fed su = either (is_byte s) refl
  where
    either : (t : Bool) → is_byte s ≡ t → InName ψ c
    either true x =
        let (d, is, at_it) = byte_of s x in
        no_more xs c ys (tail_same d b [] (xs ++ (c ∷ ys)) (sym is ∙ all))
    either false x = inside_other σ τ s h b xs c ys φ ψ ρ k (other σ s τ e x fit) e st r all fed su

-- and no sign is met there
pub name_byte : (a : Named) (n : List ℕ) (t : Sign) (π : Spot) → go (name_after a n) t ≡ Some π → spaced (name_after a n) ≡ false → SignFits t → is_byte t ≡ true
name_byte (title ds) n t π e r fit = absurd (false≢true (sym r))
name_byte (kid ds m o l) n t π e r fit = either (is_byte t) refl
  where
    none_there : Other (name_after (kid ds m o l) n) t → is_byte t ≡ true
    none_there (inl (i, is, good)) = no_spot π (ap (go (name_after (kid ds m o l) n)) (sym is) ∙ e)
    none_there (inr is) = no_spot π (ap (go (name_after (kid ds m o l) n)) (sym is) ∙ e)

    either : (u : Bool) → is_byte t ≡ u → is_byte t ≡ true
    either true x = x
    either false x = none_there (other (name_after (kid ds m o l) n) t π e x fit)
name_byte (mate ds m ns) n t π e r fit = either (is_byte t) refl
  where
    either : (u : Bool) → is_byte t ≡ u → is_byte t ≡ true
    either true x = x
    either false x = absurd (other (name_after (mate ds m ns) n) t π e x fit)

not_there : {X : Type 0} (ψ : Phase) (ρ π : Spot) (k : Bool) (t : Sign) (c : ℕ) (rest ys : List ℕ) → InName ψ c → Stands ψ ρ k → go ρ t ≡ Some π → refused k ρ t ≡ false
    → SignFits t → c ∷ rest ≡ sign_bytes dtd t ++ ys → X
not_there ψ ρ π k t c rest ys (a, n, is, name) su e r fit bytes =
    let st : Stands (naming a n) ρ k = subst (λ x. Stands x ρ k) is su in
    let close : spaced (name_after a n) ≡ false = ap spaced st.0 ∙ sym (ap (λ x. refused x ρ t) st.1) ∙ r in
    let (d, one, at_it) = byte_of t (name_byte a n t π (ap (λ x. go x t) st.0 ∙ e) close fit) in
    no_sign t (sym (no_name_sign c name) ∙ ap sign_at (head_same c d rest ys (bytes ∙ ap (λ x. x ++ ys) one)) ∙ at_it)

-- two splits of the same bytes
split_front : (xs ys us vs : List ℕ) → xs ++ ys ≡ us ++ vs → length us ≤ length xs → (zs : List ℕ) × (xs ≡ us ++ zs) × (vs ≡ zs ++ ys)
split_front xs ys [] vs e h = (xs, refl, sym e)
split_front [] ys (u ∷ us) vs e h = absurd (omega arith)
split_front (x ∷ xs) ys (u ∷ us) vs e h =
    let (zs, k, l) = split_front xs ys us vs (tail_same x u (xs ++ ys) (us ++ vs) e) (omega arith) in
    (zs, ap (λ y. y ∷ xs) (head_same x u (xs ++ ys) (us ++ vs) e) ∙ ap (λ y. u ∷ y) k, l)

cancel : (xs ys zs : List ℕ) → xs ++ ys ≡ xs ++ zs → ys ≡ zs
cancel xs ys zs e = sym (drop-append_seam xs ys) ∙ ap (drop (length xs)) e ∙ drop-append_seam xs zs

far : (q r : ℕ) (bytes z : List ℕ) (ss : List Sign) (s : Sign) (φ ψ : Phase) (σ τ : Spot) (h : Bool) (xs : List ℕ)
    → Spelt (take q bytes) φ → Stands φ σ h → Good σ → spelled σ ≡ ss → refused h σ s ≡ false → go σ s ≡ Some τ → SignFits s → EndsWell s xs
    → feeds z (Some φ) ≡ Some ψ → z ++ drop r bytes ≡ sign_bytes dtd s ++ xs → length (sign_bytes dtd s) ≤ length z → Starts (ss ++ (s ∷ [])) (signs_by ψ)
far q r bytes z ss s φ ψ σ τ h xs sp st good read r1 e fit well fed all long =
    let (zs, parts, rest) = split_front z (drop r bytes) (sign_bytes dtd s) xs all long in
    let (χ, reads, stc) = sign_fed s φ σ τ h st r1 fit e in
    let sound : Sound σ s (Some τ) = subst (Sound σ s) e (go_sound σ s good) in
    let behind : Spelt (take q bytes ++ sign_bytes dtd s) χ = subst (Leads (take q bytes ++ sign_bytes dtd s)) reads (feeds_lead (sign_bytes dtd s) (take q bytes) (Some φ) sp) in
    let then_on : feeds zs (Some χ) ≡ Some ψ = sym (ap (feeds zs) reads) ∙ sym (feeds_on (sign_bytes dtd s) zs (Some φ)) ∙ ap (λ x. feeds x (Some φ)) (sym parts) ∙ fed in
    let last : Spelt ((take q bytes ++ sign_bytes dtd s) ++ zs) ψ =
    subst (Leads ((take q bytes ++ sign_bytes dtd s) ++ zs)) then_on (feeds_lead zs (take q bytes ++ sign_bytes dtd s) (Some χ) behind) in
    subst (λ x. Starts x (signs_by ψ)) (sound.0 ∙ ap (λ x. x ++ (s ∷ [])) read)
    (later zs (take q bytes ++ sign_bytes dtd s) (drop r bytes) χ ψ σ τ s behind sound.1 stc sound.0 (subst (EndsWell s) rest well) then_on last)

near : {X : Type 0} (z y : List ℕ) (s t : Sign) (φ ψ : Phase) (σ τ ρ π : Spot) (h k : Bool) (xs ys : List ℕ) → 0 < length z → length z < length (sign_bytes dtd s)
    → sign_bytes dtd s ≡ z ++ y → go σ s ≡ Some τ → SignFits s → Stands φ σ h → refused h σ s ≡ false → feeds z (Some φ) ≡ Some ψ → Stands ψ ρ k
    → go ρ t ≡ Some π → refused k ρ t ≡ false → SignFits t → y ++ xs ≡ sign_bytes dtd t ++ ys → X
near [] y s t φ ψ σ τ ρ π h k xs ys some less parts e fit st r fed su e2 r2 fit2 all = absurd (omega arith)
near (b ∷ z) [] s t φ ψ σ τ ρ π h k xs ys some less parts e fit st r fed su e2 r2 fit2 all =
    let same : length (sign_bytes dtd s) ≡ length (b ∷ z) = ap length (parts ∙ append-nil (b ∷ z)) in
    absurd (omega arith)
near (b ∷ z) (c ∷ y) s t φ ψ σ τ ρ π h k xs ys some less parts e fit st r fed su e2 r2 fit2 all =
    not_there ψ ρ π k t c (y ++ xs) ys (inside_sign σ τ s h b z c y φ ψ ρ k e fit st r parts fed su) su e2 r2 fit2 all

good_at : (p : List ℕ) (σ : Spot) (h : Bool) → Spelt p (at σ h) → Good σ
good_at p σ h (ts, gap, base, g, u, w) = base.0

close_or_far : {X : Type 0} {m n : ℕ} → (m < n) ⊎ (n ≤ m) → (m < n → X) → (n ≤ m → X) → X
close_or_far (inl h) f g = f h
close_or_far (inr h) f g = g h

met_order : (bytes : List ℕ) (q r : ℕ) (ss rs : List Sign) (s t : Sign) → Met bytes q ss s → Met bytes r rs t → q < r
    → (q + length (sign_bytes dtd s) ≤ r) × ((more : List Sign) × (rs ≡ (ss ++ (s ∷ [])) ++ more))
met_order bytes q r ss rs s t (φ, σ, h, xs, le, e, st, read, r1, some, fit, d, well) (ψ, ρ, k, ys, le2, e2, su, read2, r2, some2, fit2, d2, well2) less =
    let (τ, goes) = the_spot σ s some in
    let (π, goes2) = the_spot ρ t some2 in
    let sp : Spelt (take q bytes) φ = led (take q bytes) (Some φ) e in
    let (z, ez) = take_more q r bytes (omega arith) in
    let fed : feeds z (Some φ) ≡ Some ψ = sym (ap (feeds z) e) ∙ sym (feeds_on (take q bytes) z first) ∙ ap (λ x. feeds x first) (sym ez) ∙ e2 in
    let cut : take q bytes ++ (z ++ drop r bytes) ≡ take q bytes ++ (sign_bytes dtd s ++ xs) =
    sym (append_assoc (take q bytes) z (drop r bytes)) ∙ ap (λ x. x ++ drop r bytes) (sym ez) ∙ take-append-drop r bytes
    ∙ sym (take-append-drop q bytes) ∙ ap (λ x. take q bytes ++ x) d in
    let all : z ++ drop r bytes ≡ sign_bytes dtd s ++ xs = cancel (take q bytes) (z ++ drop r bytes) (sign_bytes dtd s ++ xs) cut in
    let size : r ≡ q + length z =
    sym (length-take-le r bytes le2) ∙ ap length ez ∙ length-append (take q bytes) z ∙ ap (λ x. x + length z) (length-take-le q bytes le) in
    let good : Good σ = good_at (take q bytes) σ h (stands_spelt (take q bytes) φ σ h sp st) in
    close_or_far (cases_lt (length z) (length (sign_bytes dtd s)))
    (λ short.
    let (y, parts, rest) = split_front (sign_bytes dtd s) xs z (drop r bytes) (sym all) (omega arith) in
    near z y s t φ ψ σ τ ρ π h k xs ys (omega arith) short parts goes fit st r1 fed su goes2 r2 fit2 (sym rest ∙ d2))
    (λ long. (
      omega arith,
      subst (Starts (ss ++ (s ∷ []))) (stands_by ψ ρ k su ∙ read2) (far q r bytes z ss s φ ψ σ τ h xs sp st good read r1 goes fit well fed all long),
    ))

pub in_order : InOrder
in_order bytes q r ss rs s t h k less = met_order bytes q r ss rs s t ((signs_met bytes q ss s).0 h) ((signs_met bytes r rs t).0 k) less

-- a sign that stands before the place has been read there
met_read : (bytes : List ℕ) (q n : ℕ) (ss : List Sign) (s : Sign) (ψ : Phase) → Met bytes q ss s → q + length (sign_bytes dtd s) ≤ n → n ≤ length bytes
    → feeds (take n bytes) first ≡ Some ψ → Starts (ss ++ (s ∷ [])) (signs_by ψ)
met_read bytes q n ss s ψ (φ, σ, h, xs, le, e, st, read, r1, some, fit, d, well) within le2 e2 =
    let (τ, goes) = the_spot σ s some in
    let sp : Spelt (take q bytes) φ = led (take q bytes) (Some φ) e in
    let (z, ez) = take_more q n bytes (omega arith) in
    let fed : feeds z (Some φ) ≡ Some ψ = sym (ap (feeds z) e) ∙ sym (feeds_on (take q bytes) z first) ∙ ap (λ x. feeds x first) (sym ez) ∙ e2 in
    let cut : take q bytes ++ (z ++ drop n bytes) ≡ take q bytes ++ (sign_bytes dtd s ++ xs) =
    sym (append_assoc (take q bytes) z (drop n bytes)) ∙ ap (λ x. x ++ drop n bytes) (sym ez) ∙ take-append-drop n bytes
    ∙ sym (take-append-drop q bytes) ∙ ap (λ x. take q bytes ++ x) d in
    let all : z ++ drop n bytes ≡ sign_bytes dtd s ++ xs = cancel (take q bytes) (z ++ drop n bytes) (sign_bytes dtd s ++ xs) cut in
    let size : n ≡ q + length z =
    sym (length-take-le n bytes le2) ∙ ap length ez ∙ length-append (take q bytes) z ∙ ap (λ x. x + length z) (length-take-le q bytes le) in
    let good : Good σ = good_at (take q bytes) σ h (stands_spelt (take q bytes) φ σ h sp st) in
    far q n bytes z ss s φ ψ σ τ h xs sp st good read r1 goes fit well fed all (omega arith)

pub signs_read : SignsRead
signs_read bytes q n ss s ψ h within le e = met_read bytes q n ss s ψ ((signs_met bytes q ss s).0 h) within le e

pub some_bytes : (s : Sign) → SignFits s → 0 < length (sign_bytes dtd s)
some_bytes s h = either (is_byte s) refl
  where
    either : (t : Bool) → is_byte s ≡ t → 0 < length (sign_bytes dtd s)
    either true x =
        let (b, is, k) = byte_of s x in
        let size : length (sign_bytes dtd s) ≡ 1 = ap length is in
        omega arith
    either false x =
        let (b, bs, is, k) = no_byte s x h in
        let size : length (sign_bytes dtd s) ≡ length (b ∷ bs) = ap length is in
        omega arith

-- a place where the machine stands, and not in a name, is not within the bytes of a sign that stands
cut_sign : (z y : List ℕ) (s : Sign) (φ ψ : Phase) (σ τ ρ : Spot) (h k : Bool) → 0 < length z → length z < length (sign_bytes dtd s) → sign_bytes dtd s ≡ z ++ y
    → go σ s ≡ Some τ → SignFits s → Stands φ σ h → refused h σ s ≡ false → feeds z (Some φ) ≡ Some ψ → Stands ψ ρ k → (a : Named) × (n : List ℕ) × (ψ ≡ naming a n)
cut_sign [] y s φ ψ σ τ ρ h k some less parts e fit st r fed su = absurd (omega arith)
cut_sign (b ∷ z) [] s φ ψ σ τ ρ h k some less parts e fit st r fed su =
    let same : length (sign_bytes dtd s) ≡ length (b ∷ z) = ap length (parts ∙ append-nil (b ∷ z)) in
    absurd (omega arith)
cut_sign (b ∷ z) (c ∷ y) s φ ψ σ τ ρ h k some less parts e fit st r fed su =
    let (a, n, is, name) = inside_sign σ τ s h b z c y φ ψ ρ k e fit st r parts fed su in
    (a, n, is)

met_across : (bytes : List ℕ) (q m : ℕ) (ss : List Sign) (s : Sign) (ψ : Phase) (ρ : Spot) (k : Bool) → Met bytes q ss s → m ≤ length bytes → feeds (take m bytes) first ≡ Some ψ
    → Stands ψ ρ k → q < m → m < q + length (sign_bytes dtd s) → (a : Named) × (n : List ℕ) × (ψ ≡ naming a n)
met_across bytes q m ss s ψ ρ k (φ, σ, h, xs, le, e, st, read, r1, some, fit, d, well) le2 e2 su before_it after_it =
    let (τ, goes) = the_spot σ s some in
    let (z, ez) = take_more q m bytes (omega arith) in
    let fed : feeds z (Some φ) ≡ Some ψ = sym (ap (feeds z) e) ∙ sym (feeds_on (take q bytes) z first) ∙ ap (λ x. feeds x first) (sym ez) ∙ e2 in
    let cut : take q bytes ++ (z ++ drop m bytes) ≡ take q bytes ++ (sign_bytes dtd s ++ xs) =
    sym (append_assoc (take q bytes) z (drop m bytes)) ∙ ap (λ x. x ++ drop m bytes) (sym ez) ∙ take-append-drop m bytes
    ∙ sym (take-append-drop q bytes) ∙ ap (λ x. take q bytes ++ x) d in
    let all : z ++ drop m bytes ≡ sign_bytes dtd s ++ xs = cancel (take q bytes) (z ++ drop m bytes) (sign_bytes dtd s ++ xs) cut in
    let size : m ≡ q + length z =
    sym (length-take-le m bytes le2) ∙ ap length ez ∙ length-append (take q bytes) z ∙ ap (λ x. x + length z) (length-take-le q bytes le) in
    let (y, parts, rest) = split_front (sign_bytes dtd s) xs z (drop m bytes) (sym all) (omega arith) in
    cut_sign z y s φ ψ σ τ ρ h k (omega arith) (omega arith) parts goes fit st r1 fed su

not_naming : {X : Type 0} (σ : Spot) (g : Bool) (a : Named) (n : List ℕ) → at σ g ≡ naming a n → X
not_naming σ g a n e = absurd (false≢true (ap (λ φ. elim φ [ naming b m ↦ true | χ ↦ false ]) e))

pub not_across : (bytes : List ℕ) (q m : ℕ) (ss : List Sign) (s : Sign) (ds : List Declaration) (g : Bool) → SignStands dtd bytes q ss s → m ≤ length bytes
    → feeds (take m bytes) first ≡ Some (at (outside ds) g) → q < m → q + length (sign_bytes dtd s) ≤ m
not_across bytes q m ss s ds g h le e less =
    close_or_far {m = m} {n = q + length (sign_bytes dtd s)} (cases_lt m (q + length (sign_bytes dtd s)))
    (λ short.
    let (a, n, is) = met_across bytes q m ss s (at (outside ds) g) (outside ds) g ((signs_met bytes q ss s).0 h) le e (refl, refl) less short in
    not_naming (outside ds) g a n is)
    (λ long. long)
