-- Where signs stand, where the machine stops, and what has ended before. Assumes nothing.
use Rattle.std.proofs.Common.{◌≡◌, ℕ, zero, suc, ◌+◌, ◌<◌, ◌≤◌, Bool, true, false, List, [], ◌∷◌, ◌++◌, length, take, drop, Some, None, Option, IsSome, is_some, sym, refl, ap, ◌∙◌, subst, arith, length-append}
use Rattle.std.proofs.lemmas.List.{append_assoc, append-nil, take-append-drop, length-take-le}
use Rattle.std.proofs.lemmas.Bool.{false≢true}
use Rattle.std.proofs.Math.Seq.{take-append_seam, drop-append_seam}
use Rattle.grammar.specs.Bytes.{IsSomeSpace, IsSpace, IsGap}
use Rattle.grammar.specs.Words.{Words}
use Rattle.grammar.specs.Words.Words.{name, group}
use Rattle.grammar.specs.Words.Mark.{any}
use Rattle.grammar.specs.Words.Sign.{names, empties, opens, closes, suffix, separator}
use Rattle.grammar.specs.Lists.{Left, put}
use Rattle.grammar.specs.Lists.State.{want, got}
use Rattle.grammar.specs.Notations.Notation.{dtd}
use Rattle.grammar.specs.Declarations.{Content, Declaration, Sign, Token, TokensOf, all_signs, sign_bytes, GapInside, GapBefore, GapsFit, signs_of, written}
use Rattle.grammar.specs.Declarations.Content.{none, text, children}
use Rattle.grammar.specs.Declarations.Sign.{element, declared, empty_word, any_word, pcdata_word, inner, ends}
use Rattle.grammar.specs.Faults.{EndsWell, SignStands}
use Rattle.grammar.specs.Machine.{is_outside, Spot, spelled, SignFits, Stands, made, ended, go, goes, spaced, Phase, is_suffix, refused, feeds, first, StopsThere, Met, SignsMet}
use Rattle.grammar.specs.Machine.Spot.{outside, opened, titled, kids, mixed, wanted, starless, grouped, full}
use Rattle.grammar.specs.Machine.Phase.{at, naming, word, angle, bang, bar, inside, dash, dashes}
use Rattle.grammar.proofs.Signs.{Good, Sound, wants_space, go_sound, SignsFit, SignsFit-append, SignsFit-parts, no_spot, goes_none, all_go, all_fit, fit_all}
use Rattle.grammar.proofs.Spelt.{token, last_sign, signs_of-append, gap_before, Base, FitGap, extend, GapAt, fit_one, Spelt, named, feeds_none, is_element}
use Rattle.grammar.proofs.Fed.{feeds_on, pieces_fed, tokens_fed, before_gap, Gapped, gap_fed, let_in, same_some}
use Rattle.grammar.proofs.Text.{led, viable}

-- starts of starts
pub take_more : (m k : ℕ) (bs : List ℕ) → m ≤ k → (zs : List ℕ) × (take k bs ≡ take m bs ++ zs)
take_more zero k bs h = (take k bs, refl)
take_more (suc m) zero bs h = absurd (omega arith)
take_more (suc m) (suc k) [] h = ([], refl)
take_more (suc m) (suc k) (b ∷ bs) h =
    let (zs, e) = take_more m k bs (omega arith) in
    (zs, ap (λ xs. b ∷ xs) e)

some_start : (bs : List ℕ) (o : Option Phase) → IsSome (feeds bs o) → IsSome o
some_start bs None h = subst IsSome (feeds_none bs) h
some_start bs (Some φ) h = refl

pub shorter : (bytes : List ℕ) (m k : ℕ) → m ≤ k → IsSome (feeds (take k bytes) first) → IsSome (feeds (take m bytes) first)
shorter bytes m k h some =
    let (zs, e) = take_more m k bytes h in
    some_start zs (feeds (take m bytes) first) (subst IsSome (ap (λ xs. feeds xs first) e ∙ feeds_on (take m bytes) zs first) some)

is_none : (o : Option Phase) → (IsSome o → ⊥) → o ≡ None
is_none None h = refl
is_none (Some φ) h = absurd (h refl)

pub stops_there : StopsThere
stops_there bytes n = (
  (λ (le, some, stop). (
    le,
    (viable (take n bytes)).1 some,
    λ k less most begins.
        let last : n < length bytes = omega arith in
        false≢true (ap is_some (sym (stop last)) ∙ shorter bytes (suc n) k (omega arith) ((viable (take k bytes)).0 begins)),
  )),
  (λ (le, begins, longest). (
    le,
    (viable (take n bytes)).0 begins,
    λ less.
        is_none (feeds (take (suc n) bytes) first) (λ some. longest (suc n) (omega arith) (omega arith) ((viable (take (suc n) bytes)).1 some)),
  )),
)

abbrev pub first_spot : Option Spot
first_spot = Some (outside [])

-- runs over signs
pub goes_on : (ss ts : List Sign) (o : Option Spot) → goes (ss ++ ts) o ≡ goes ts (goes ss o)
goes_on [] ts o = refl
goes_on (s ∷ ss) ts None = goes_on ss ts None
goes_on (s ∷ ss) ts (Some σ) = goes_on ss ts (go σ s)

-- what a run over tokens leaves
abbrev pub Left_by : Sign → List Token → Spot → Spot → Type 0
Left_by x ts σ τ = (spelled τ ≡ spelled σ ++ signs_of ts) × Good τ × (wants_space (last_sign x ts) ≡ spaced τ)

pub goes_left : (ts : List Token) (x : Sign) (σ τ : Spot) → wants_space x ≡ spaced σ → Good σ → goes (signs_of ts) (Some σ) ≡ Some τ → Left_by x ts σ τ
goes_left [] x σ τ wants good e = subst (Left_by x [] σ) (same_some σ τ e) (sym (append-nil (spelled σ)), good, wants)
goes_left (t ∷ ts) x σ τ wants good e = went (λ ρ wanted good r. goes_left ts t.sign ρ τ wanted good r) (go σ t.sign) refl e
  where
    went : ((ρ : Spot) → wants_space t.sign ≡ spaced ρ → Good ρ → goes (signs_of ts) (Some ρ) ≡ Some τ → Left_by t.sign ts ρ τ)
        → (o : Option Spot) → go σ t.sign ≡ o → goes (signs_of ts) o ≡ Some τ → Left_by x (t ∷ ts) σ τ
    went others None k r = no_spot τ (sym (goes_none (signs_of ts)) ∙ r)
    went others (Some ρ) k r =
        let sound : Sound σ t.sign (Some ρ) = subst (Sound σ t.sign) k (go_sound σ t.sign good) in
        let (read, well, last) = others ρ (sym sound.2) sound.1 r in
        (read ∙ ap (λ ss. ss ++ signs_of ts) sound.0 ∙ append_assoc (spelled σ) (t.sign ∷ []) (signs_of ts), well, last)

-- from each spot some tokens end the text
abbrev TokEnd : Sign → Spot → Type 0
TokEnd x σ = (more : List Token) × (ds : List Declaration) × (goes (signs_of more) (Some σ) ≡ Some (outside ds)) × GapsFit dtd x more × SignsFit (signs_of more)

then : (x : Sign) (σ τ : Spot) (g : List ℕ) (s : Sign) → GapBefore dtd x s g → SignFits s → go σ s ≡ Some τ → TokEnd s τ → TokEnd x σ
then x σ τ g s gap is e (more, ds, k, fits, are) = (token g s ∷ more, ds, ap (goes (signs_of more)) e ∙ k, (gap, fits), (is, are))

free : (x s : Sign) → wants_space x ≡ false → GapInside dtd s [] → GapBefore dtd x s []
free x s e h = gap_before x s [] (λ k. absurd (false≢true (sym e ∙ k))) (λ k. h)

blanked : (x s : Sign) → wants_space x ≡ true → GapBefore dtd x s (32 ∷ [])
blanked x s e = gap_before x s (32 ∷ []) (λ k. (refl, tt)) (λ k. absurd (false≢true (sym k ∙ e)))

full_ends : (x : Sign) (ds : List Declaration) (n : List ℕ) (c : Content) → wants_space x ≡ false → TokEnd x (full ds n c)
full_ends x ds n c e = then x (full ds n c) (ended ds n c) [] ends (free x ends e tt) tt refl ([], ds ++ (made n c ∷ []), refl, tt, tt)

starless_ends : (x : Sign) (ds : List Declaration) (n : List ℕ) (ns : List (List ℕ)) → wants_space x ≡ false → TokEnd x (starless ds n ns)
starless_ends x ds n ns e =
    then x (starless ds n ns) (full ds n (text ns true)) [] (inner (suffix any)) (free x (inner (suffix any)) e refl) tt refl (full_ends _ ds n (text ns true) refl)

mixed_ends : (x : Sign) (ds : List Declaration) (n : List ℕ) (ns : List (List ℕ)) → wants_space x ≡ false → TokEnd x (mixed ds n ns)
mixed_ends x ds n ns e = then x (mixed ds n ns) (starless ds n ns) [] (inner closes) (free x (inner closes) e tt) tt refl (starless_ends _ ds n ns refl)

grouped_ends : (x : Sign) (ds : List Declaration) (n : List ℕ) (v : Words) → wants_space x ≡ false → TokEnd x (grouped ds n v)
grouped_ends x ds n v e =
    then x (grouped ds n v) (ended ds n (children (group v))) [] ends (free x ends e tt) tt refl ([], ds ++ (made n (children (group v)) ∷ []), refl, tt, tt)

got_ends : (o : List Left) (l : Left) (w : Words) (x : Sign) (ds : List Declaration) (n : List ℕ) → wants_space x ≡ false → TokEnd x (kids ds n (got o l w))
got_ends [] l w x ds n e =
    then x (kids ds n (got [] l w)) (grouped ds n (put l w)) [] (inner closes) (free x (inner closes) e tt) tt refl (grouped_ends _ ds n (put l w) refl)
got_ends (k ∷ o) l w x ds n e =
    then x (kids ds n (got (k ∷ o) l w)) (kids ds n (got o k (group (put l w)))) [] (inner closes) (free x (inner closes) e tt) tt refl
    (got_ends o k (group (put l w)) (inner closes) ds n refl)

titled_ends : (x : Sign) (ds : List Declaration) (n : List ℕ) → wants_space x ≡ true → TokEnd x (titled ds n)
titled_ends x ds n e = then x (titled ds n) (full ds n none) (32 ∷ []) empty_word (blanked x empty_word e) tt refl (full_ends _ ds n none refl)

spot_ends : (σ : Spot) (x : Sign) → wants_space x ≡ spaced σ → TokEnd x σ
spot_ends (outside ds) x e = ([], ds, refl, tt, tt)
spot_ends (opened ds) x e =
    then x (opened ds) (titled ds (97 ∷ [])) (32 ∷ []) (declared (97 ∷ [])) (blanked x (declared (97 ∷ [])) e) (refl, tt) refl (titled_ends _ ds (97 ∷ []) refl)
spot_ends (titled ds n) x e = titled_ends x ds n e
spot_ends (kids ds n (want o l)) x e =
    then x (kids ds n (want o l)) (kids ds n (got o l (name (97 ∷ [])))) [] (inner (names (97 ∷ []))) (free x (inner (names (97 ∷ []))) e tt) (refl, tt) refl
    (got_ends o l (name (97 ∷ [])) _ ds n refl)
spot_ends (kids ds n (got o l w)) x e = got_ends o l w x ds n e
spot_ends (mixed ds n ns) x e = mixed_ends x ds n ns e
spot_ends (wanted ds n ns) x e =
    then x (wanted ds n ns) (mixed ds n (ns ++ ((97 ∷ []) ∷ []))) [] (inner (names (97 ∷ []))) (free x (inner (names (97 ∷ []))) e tt) (refl, tt) refl
    (mixed_ends _ ds n (ns ++ ((97 ∷ []) ∷ [])) refl)
spot_ends (starless ds n ns) x e = starless_ends x ds n ns e
spot_ends (grouped ds n v) x e = grouped_ends x ds n v e
spot_ends (full ds n c) x e = full_ends x ds n c e

-- tokens that are read begin a text
GapsFit-append : (x : Sign) (ts us : List Token) → GapsFit dtd x ts → GapsFit dtd (last_sign x ts) us → GapsFit dtd x (ts ++ us)
GapsFit-append x [] us h k = k
GapsFit-append x (t ∷ ts) us h k = (h.0, GapsFit-append t.sign ts us h.1 k)

pub GapsFit-parts : (x : Sign) (ts us : List Token) → GapsFit dtd x (ts ++ us) → GapsFit dtd x ts × GapsFit dtd (last_sign x ts) us
GapsFit-parts x [] us h = (tt, h)
GapsFit-parts x (t ∷ ts) us h = let k = GapsFit-parts t.sign ts us h.1 in ((h.0, k.0), k.1)

pub base_begins : (ts : List Token) (σ : Spot) → Base ts σ → (more : List Token) × (ds : List Declaration) × TokensOf dtd (ts ++ more) ds
base_begins ts σ (good, read, fits, are, last) =
    let (more, ds, e, gaps, all) = spot_ends σ (last_sign ends ts) last in
    let (whole, well, wants) = goes_left more (last_sign ends ts) σ (outside ds) last good e in
    let signs : signs_of (ts ++ more) ≡ all_signs ds = signs_of-append ts more ∙ ap (λ ss. ss ++ signs_of more) read ∙ sym whole in (
      more,
      ds,
      (
        signs,
        GapsFit-append ends ts more fits gaps,
        fit_all ds well (subst SignsFit signs (subst SignsFit (sym (signs_of-append ts more)) (SignsFit-append (signs_of ts) (signs_of more) are all))),
      ),
    )

-- from the machine to the text
one_gap : (s : Sign) → is_element s ≡ false → (g : List ℕ) → IsSpace g → (is_suffix s ≡ true → g ≡ []) → GapInside dtd s g
one_gap element e g h k = absurd (false≢true (sym e))
one_gap (inner (suffix m)) e g h k = k refl
one_gap (inner (names n)) e g h k = h
one_gap (inner empties) e g h k = h
one_gap (inner opens) e g h k = h
one_gap (inner closes) e g h k = h
one_gap (inner (separator j)) e g h k = h
one_gap (declared n) e g h k = h
one_gap empty_word e g h k = h
one_gap any_word e g h k = h
one_gap pcdata_word e g h k = h
one_gap ends e g h k = h

pub elsewhere : (σ : Spot) (s : Sign) (τ : Spot) → is_outside σ ≡ false → go σ s ≡ Some τ → is_element s ≡ false
elsewhere (outside ds) s τ out e = absurd (false≢true (sym out))
elsewhere σ element τ out e = no_spot τ e
elsewhere σ s τ out e = refl

outer_gap : (ds : List Declaration) (s : Sign) (τ : Spot) (gap : List ℕ) → IsGap gap → go (outside ds) s ≡ Some τ → FitGap (outside ds) s gap
outer_gap ds element τ gap h e = (λ k. absurd (false≢true k), λ k. h)
outer_gap ds s τ gap h e = no_spot τ e

gap_fits : (σ : Spot) (h : Bool) (gap : List ℕ) (s : Sign) (τ : Spot) → GapAt σ h gap → refused h σ s ≡ false → go σ s ≡ Some τ → FitGap σ s gap
gap_fits (outside ds) h gap s τ g r e = outer_gap ds s τ gap g e
gap_fits σ h gap s τ g r e = fit_one σ h gap s g r (one_gap s (elsewhere σ s τ refl e))

pub stands_spelt : (p : List ℕ) (φ : Phase) (σ : Spot) (h : Bool) → Spelt p φ → Stands φ σ h → Spelt p (at σ h)
stands_spelt p (at τ g) σ h k st = subst (λ x. Spelt p (at σ x)) st.1 (subst (λ x. Spelt p (at x g)) st.0 k)
stands_spelt p (naming a n) σ h k st = subst (λ x. Spelt p (at σ x)) (sym st.1) (subst (λ x. Spelt p (at x false)) st.0 (named p a n k))
stands_spelt p (word f left) σ h k st = absurd st
stands_spelt p (angle ds) σ h k st = absurd st
stands_spelt p (bang ds) σ h k st = absurd st
stands_spelt p (bar ds) σ h k st = absurd st
stands_spelt p (inside ds) σ h k st = absurd st
stands_spelt p (dash ds) σ h k st = absurd st
stands_spelt p (dashes ds) σ h k st = absurd st

placed : (bytes : List ℕ) (q : ℕ) (s : Sign) (rest : List ℕ) (σ τ : Spot) (h : Bool) → q ≤ length bytes → Spelt (take q bytes) (at σ h) → refused h σ s ≡ false
    → go σ s ≡ Some τ → SignFits s → drop q bytes ≡ sign_bytes dtd s ++ rest → EndsWell s rest → SignStands dtd bytes q (spelled σ) s
placed bytes q s rest σ τ h le (ts, gap, base, g, t, w) r e is d well =
    let (more, ds, of) = base_begins (ts ++ (token gap s ∷ [])) τ (extend ts gap s σ τ base (gap_fits σ h gap s τ g r e) is e) in (
      ts,
      gap,
      rest,
      base.1,
      sym (length-take-le q bytes le) ∙ ap length w,
      sym (take-append-drop q bytes) ∙ ap (λ xs. xs ++ drop q bytes) w ∙ ap (λ xs. (written dtd ts ++ gap) ++ xs) d,
      well,
      more,
      ds,
      subst (λ us. TokensOf dtd us ds) (append_assoc ts (token gap s ∷ []) more) of,
    )

met_stands : (bytes : List ℕ) (q : ℕ) (ss : List Sign) (s : Sign) → Met bytes q ss s → SignStands dtd bytes q ss s
met_stands bytes q ss s (φ, σ, h, rest, le, e, st, read, r, some, is, d, well) = went (go σ s) refl some
  where
    went : (o : Option Spot) → go σ s ≡ o → IsSome o → SignStands dtd bytes q ss s
    went None k x = absurd (false≢true x)
    went (Some τ) k x =
        subst (λ us. SignStands dtd bytes q us s) read
        (placed bytes q s rest σ τ h le (stands_spelt (take q bytes) φ σ h (led (take q bytes) (Some φ) e) st) r k is d well)

-- from the text to the machine
gapped : (s : Sign) (g : List ℕ) (φ : Phase) (σ ρ : Spot) → Stands φ σ false → (spaced σ ≡ true → IsSomeSpace g) → (spaced σ ≡ false → GapInside dtd s g)
    → go σ s ≡ Some ρ → Gapped φ g σ s
gapped element g φ (outside ds) ρ st some space e =
    let (ps, are, is) = space refl in
    let (ψ, h, fed, stands) = pieces_fed ps ds φ false st are in
    (ψ, h, ap (λ xs. feeds xs (Some φ)) is ∙ fed, stands, let_in h (outside ds) element refl refl)
gapped element g φ σ ρ st some space e = no_spot ρ e
gapped s g φ σ ρ st some space e = gap_fed g φ σ ρ s st refl some space e

stands_met : (bytes : List ℕ) (q : ℕ) (ss : List Sign) (s : Sign) → SignStands dtd bytes q ss s → Met bytes q ss s
stands_met bytes q ss s (ts, gap, rest, same, place, all, well, more, ds, (read, fits, are)) =
    let full : goes (signs_of ts ++ (s ∷ signs_of more)) first_spot ≡ Some (outside ds) =
    ap (λ xs. goes xs first_spot) (sym (signs_of-append ts (token gap s ∷ more)) ∙ read) ∙ all_go ds [] are in
    went (goes (signs_of ts) first_spot) refl (sym (goes_on (signs_of ts) (s ∷ signs_of more) first_spot) ∙ full)
  where
    behind : (σ τ : Spot) → goes (signs_of ts) first_spot ≡ Some σ → go σ s ≡ Some τ → Met bytes q ss s
    behind σ τ e k =
        let gaps = GapsFit-parts ends ts (token gap s ∷ more) fits in
        let signs = SignsFit-parts (signs_of ts) (s ∷ signs_of more)
        (subst SignsFit (sym read ∙ signs_of-append ts (token gap s ∷ more)) (all_fit ds are)) in
        let (whole, good, wants) = goes_left ts ends (outside []) σ refl tt e in
        let (ψ, fed, stands) = tokens_fed ts ends (at (outside []) false) (outside []) σ gaps.0 refl tt signs.0 (refl, refl) e in
        let before = before_gap (last_sign ends ts) s gap gaps.1.0 in
        let (χ, h, on, stays, r) = gapped s gap ψ σ τ stands (λ x. before.0 (wants ∙ x)) (λ x. before.1 (wants ∙ x)) k in
        let front : take q bytes ≡ written dtd ts ++ gap =
        ap (λ n. take n bytes) place ∙ ap (take (length (written dtd ts ++ gap))) all ∙ take-append_seam (written dtd ts ++ gap) (sign_bytes dtd s ++ rest) in
        let behind_it : drop q bytes ≡ sign_bytes dtd s ++ rest =
        ap (λ n. drop n bytes) place ∙ ap (drop (length (written dtd ts ++ gap))) all ∙ drop-append_seam (written dtd ts ++ gap) (sign_bytes dtd s ++ rest) in (
          χ,
          σ,
          h,
          rest,
          within,
          ap (λ xs. feeds xs first) front ∙ feeds_on (written dtd ts) gap first ∙ ap (feeds gap) fed ∙ on,
          stays,
          whole ∙ same,
          r,
          ap is_some k,
          signs.1.0,
          behind_it,
          well,
        )
      where
        within : q ≤ length bytes
        within =
            let n : length bytes ≡ length (written dtd ts ++ gap) + length (sign_bytes dtd s ++ rest) = ap length all ∙ length-append (written dtd ts ++ gap) (sign_bytes dtd s ++ rest) in
            omega arith

    taken : (σ : Spot) → goes (signs_of ts) first_spot ≡ Some σ → (o : Option Spot) → go σ s ≡ o → goes (signs_of more) o ≡ Some (outside ds) → Met bytes q ss s
    taken σ e None k r = no_spot (outside ds) (sym (goes_none (signs_of more)) ∙ r)
    taken σ e (Some τ) k r = behind σ τ e k

    went : (o : Option Spot) → goes (signs_of ts) first_spot ≡ o → goes (s ∷ signs_of more) o ≡ Some (outside ds) → Met bytes q ss s
    went None e r = no_spot (outside ds) (sym (goes_none (signs_of more)) ∙ r)
    went (Some σ) e r = taken σ e (go σ s) refl r

pub signs_met : SignsMet
signs_met bytes q ss s = (stands_met bytes q ss s, met_stands bytes q ss s)
