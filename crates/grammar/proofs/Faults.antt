-- What has ended before a place, the faults from the machine, and that a text gives one thing. Assumes nothing.
use Rattle.std.proofs.Common.{◌≡◌, ℕ, suc, ◌+◌, ◌<◌, ◌≤◌, ◌⊎◌, inl, inr, Bool, true, false, cond, ◌==◌, List, [], ◌∷◌, ◌++◌, length, take, drop, Some, None, Option, sym, refl, ap, ◌∙◌, subst, arith, length-append}
use Rattle.std.proofs.lemmas.List.{append_assoc, append-nil, take-append-drop, take_at, length-take-le}
use Rattle.std.proofs.lemmas.Bool.{false≢true, cases_lt}
use Rattle.grammar.specs.Bytes.{is_blank, begins_name, goes_in_name, is_char}
use Rattle.grammar.specs.Words.{Sign as Inner}
use Rattle.grammar.specs.Words.Join.{alt}
use Rattle.grammar.specs.Words.Mark.{any}
use Rattle.grammar.specs.Words.Sign.{names, empties, opens, closes, suffix, separator}
use Rattle.grammar.specs.Lists.{State, step}
use Rattle.grammar.specs.Lists.State.{want, got}
use Rattle.grammar.specs.Notations.Notation.{dtd}
use Rattle.grammar.specs.Declarations.{Declaration, Sign, Token, IsText, all_signs, sign_bytes, GapsFit, signs_of, written}
use Rattle.grammar.specs.Declarations.Sign.{element, declared, empty_word, any_word, pcdata_word, inner, ends}
use Rattle.grammar.specs.Faults.{Begins, SignStands, Cause, number, EndBefore, GivesOne}
use Rattle.grammar.specs.Faults.Cause.{kind, again, beyond}
use Rattle.grammar.specs.Machine.{Spot, spelled, kids_of, pcdata_in, kids_go, end_starless, go, tight, Named, name_before, name_after, Fixed, word_before, word_after, Phase, sign_at, into, refused, signed, lettered, angled, hashed, feed_at, word_on, feed, feeds, first, spot_read, read_by, EndsMet, SignsBefore, FaultsMet}
use Rattle.grammar.specs.Machine.Spot.{outside, opened, titled, kids, mixed, wanted, starless, grouped, full}
use Rattle.grammar.specs.Machine.Named.{title, kid, mate}
use Rattle.grammar.specs.Machine.Fixed.{the_element, the_empty, the_any, the_pcdata}
use Rattle.grammar.specs.Machine.Phase.{at, naming, word, angle, bang, bar, inside, dash, dashes}
use Rattle.grammar.proofs.Signs.{Good, AllDone, SignsFit, SignsFit-parts, fit_all}
use Rattle.grammar.proofs.Spelt.{token, Base, Spelt, feeds_none, signs_of-append, written-append}
use Rattle.grammar.proofs.Fed.{feeds_on}
use Rattle.grammar.proofs.Text.{complete, sound, one_reading, led}
use Rattle.grammar.proofs.Places.{take_more, GapsFit-parts, stops_there, signs_met}

-- declarations are only added
abbrev pub Longer : List Declaration → List Declaration → Type 0
Longer ds es = (more : List Declaration) × (es ≡ ds ++ more)

as_long : (ds : List Declaration) → Longer ds ds
as_long ds = ([], sym (append-nil ds))

one_longer : (ds : List Declaration) (d : Declaration) → Longer ds (ds ++ (d ∷ []))
one_longer ds d = (d ∷ [], refl)

still_longer : (ds es fs : List Declaration) → Longer ds es → Longer es fs → Longer ds fs
still_longer ds es fs (more, e) (less, k) = (more ++ less, k ∙ ap (λ xs. xs ++ less) e ∙ append_assoc ds more less)

abbrev SpotGrows : List Declaration → Option Spot → Type 0
SpotGrows ds None = Unit {0}
SpotGrows ds (Some τ) = Longer ds (spot_read τ)

kids_grow : (ds : List Declaration) (n : List ℕ) (o : Option State) → SpotGrows ds (kids_of ds n o)
kids_grow ds n None = tt
kids_grow ds n (Some σ) = as_long ds

inner_grows : (ds : List Declaration) (n : List ℕ) (σ : State) (s : Inner) → SpotGrows ds (kids_go ds n σ s)
inner_grows ds n σ (names m) = kids_grow ds n (step σ (names m))
inner_grows ds n σ empties = kids_grow ds n (step σ empties)
inner_grows ds n σ opens = kids_grow ds n (step σ opens)
inner_grows ds n (want o l) closes = tt
inner_grows ds n (got [] l w) closes = as_long ds
inner_grows ds n (got (k ∷ o) l w) closes = as_long ds
inner_grows ds n σ (suffix m) = kids_grow ds n (step σ (suffix m))
inner_grows ds n σ (separator j) = kids_grow ds n (step σ (separator j))

pcdata_grows : (ds : List Declaration) (n : List ℕ) (σ : State) → SpotGrows ds (pcdata_in ds n σ)
pcdata_grows ds n (want [] None) = as_long ds
pcdata_grows ds n (want [] (Some x)) = tt
pcdata_grows ds n (want (k ∷ o) l) = tt
pcdata_grows ds n (got o l w) = tt

starless_grows : (ds : List Declaration) (n : List ℕ) (ns : List (List ℕ)) → SpotGrows ds (end_starless ds n ns)
starless_grows ds n [] = one_longer ds _
starless_grows ds n (m ∷ ms) = tt

go_grows : (σ : Spot) (s : Sign) → SpotGrows (spot_read σ) (go σ s)
go_grows (outside ds) element = as_long ds
go_grows (outside ds) s = tt
go_grows (opened ds) (declared n) = as_long ds
go_grows (opened ds) s = tt
go_grows (titled ds n) empty_word = as_long ds
go_grows (titled ds n) any_word = as_long ds
go_grows (titled ds n) (inner opens) = as_long ds
go_grows (titled ds n) s = tt
go_grows (kids ds n σ) pcdata_word = pcdata_grows ds n σ
go_grows (kids ds n σ) (inner s) = inner_grows ds n σ s
go_grows (kids ds n σ) s = tt
go_grows (mixed ds n ns) (inner (separator alt)) = as_long ds
go_grows (mixed ds n ns) (inner closes) = as_long ds
go_grows (mixed ds n ns) s = tt
go_grows (wanted ds n ns) (inner (names m)) = as_long ds
go_grows (wanted ds n ns) s = tt
go_grows (starless ds n ns) (inner (suffix any)) = as_long ds
go_grows (starless ds n ns) ends = starless_grows ds n ns
go_grows (starless ds n ns) s = tt
go_grows (grouped ds n v) (inner (suffix m)) = as_long ds
go_grows (grouped ds n v) ends = one_longer ds _
go_grows (grouped ds n v) s = tt
go_grows (full ds n c) ends = one_longer ds _
go_grows (full ds n c) s = tt

abbrev Grows : List Declaration → Option Phase → Type 0
Grows ds None = Unit {0}
Grows ds (Some φ) = Longer ds (read_by φ)

cond_grows : (ds : List Declaration) (t : Bool) (x y : Option Phase) → Grows ds x → Grows ds y → Grows ds (cond t x y)
cond_grows ds true x y h k = h
cond_grows ds false x y h k = k

into_grows : (ds : List Declaration) (o : Option Spot) → SpotGrows ds o → Grows ds (into o)
into_grows ds None h = tt
into_grows ds (Some τ) h = h

signed_grows : (g : Bool) (σ : Spot) (o : Option Sign) → Grows (spot_read σ) (signed g σ o)
signed_grows g σ None = tt
signed_grows g σ (Some s) = cond_grows (spot_read σ) (refused g σ s) None _ tt (into_grows (spot_read σ) (go σ s) (go_grows σ s))

lettered_grows : (σ : Spot) (g : Bool) (b : ℕ) → Grows (spot_read σ) (lettered σ g b)
lettered_grows (opened ds) g b = cond_grows ds g _ None (as_long ds) tt
lettered_grows (titled ds n) g b = cond_grows ds g _ None (cond_grows ds (b == 69) _ _ (as_long ds) (cond_grows ds (b == 65) _ None (as_long ds) tt)) tt
lettered_grows (kids ds n (want o l)) g b = as_long ds
lettered_grows (kids ds n (got o l w)) g b = tt
lettered_grows (wanted ds n ns) g b = as_long ds
lettered_grows (outside ds) g b = tt
lettered_grows (mixed ds n ns) g b = tt
lettered_grows (starless ds n ns) g b = tt
lettered_grows (grouped ds n v) g b = tt
lettered_grows (full ds n c) g b = tt

angled_grows : (σ : Spot) → Grows (spot_read σ) (angled σ)
angled_grows (outside ds) = as_long ds
angled_grows σ = tt

hashed_grows : (σ : Spot) → Grows (spot_read σ) (hashed σ)
hashed_grows (kids ds n (want [] None)) = as_long ds
hashed_grows (kids ds n (want [] (Some x))) = tt
hashed_grows (kids ds n (want (k ∷ o) l)) = tt
hashed_grows (kids ds n (got o l w)) = tt
hashed_grows σ = tt

at_grows : (σ : Spot) (g : Bool) (b : ℕ) → Grows (spot_read σ) (feed_at σ g b)
at_grows σ g b =
    let ds = spot_read σ in
    cond_grows ds (is_blank b) _ _ (cond_grows ds (tight σ) None (Some (at σ true)) tt (as_long ds))
    (cond_grows ds (begins_name b) _ _ (lettered_grows σ g b)
    (cond_grows ds (b == 60) _ _ (angled_grows σ) (cond_grows ds (b == 35) _ _ (hashed_grows σ) (signed_grows g σ (sign_at b)))))

named_reads : (a : Named) (n : List ℕ) → spot_read (name_after a n) ≡ spot_read (name_before a)
named_reads (title ds) n = refl
named_reads (kid ds m o l) n = refl
named_reads (mate ds m ns) n = refl

word_reads : (f : Fixed) → spot_read (word_after f) ≡ spot_read (word_before f)
word_reads (the_element ds) = refl
word_reads (the_empty ds n) = refl
word_reads (the_any ds n) = refl
word_reads (the_pcdata ds n) = refl

word_grows : (f : Fixed) (left : List ℕ) → Longer (spot_read (word_before f)) (read_by (word_on f left))
word_grows f [] = subst (λ es. Longer (spot_read (word_before f)) es) (sym (word_reads f)) (as_long _)
word_grows f (c ∷ left) = as_long _

feed_grows : (φ : Phase) (b : ℕ) → Grows (read_by φ) (feed φ b)
feed_grows (at σ g) b = at_grows σ g b
feed_grows (naming a n) b =
    cond_grows _ (goes_in_name b) _ _ (as_long _) (subst (λ ds. Grows ds (feed_at (name_after a n) false b)) (named_reads a n) (at_grows (name_after a n) false b))
feed_grows (word f []) b = tt
feed_grows (word f (c ∷ left)) b = cond_grows _ (b == c) _ _ (word_grows f left) tt
feed_grows (angle ds) b = cond_grows ds (b == 33) _ _ (as_long ds) tt
feed_grows (bang ds) b = cond_grows ds (b == 69) _ _ (as_long ds) (cond_grows ds (b == 45) _ _ (as_long ds) tt)
feed_grows (bar ds) b = cond_grows ds (b == 45) _ _ (as_long ds) tt
feed_grows (inside ds) b = cond_grows ds (b == 45) _ _ (as_long ds) (cond_grows ds (is_char b) _ _ (as_long ds) tt)
feed_grows (dash ds) b = cond_grows ds (b == 45) _ _ (as_long ds) (cond_grows ds (is_char b) _ _ (as_long ds) tt)
feed_grows (dashes ds) b = cond_grows ds (b == 62) _ _ (as_long ds) tt

feeds_grow : (bs : List ℕ) (ds : List Declaration) (o : Option Phase) → Grows ds o → Grows ds (feeds bs o)
feeds_grow [] ds o h = h
feeds_grow (b ∷ bs) ds None h = rw feeds_none tt
feeds_grow (b ∷ bs) ds (Some φ) h = feeds_grow bs ds (feed φ b) (on (feed φ b) (feed_grows φ b))
  where
    on : (o : Option Phase) → Grows (read_by φ) o → Grows ds o
    on None k = tt
    on (Some ψ) k = still_longer ds (read_by φ) (read_by ψ) h k

-- the declarations that have ended
spelled_parts : (σ : Spot) → (tail : List Sign) × (spelled σ ≡ all_signs (spot_read σ) ++ tail)
spelled_parts (outside ds) = ([], sym (append-nil (all_signs ds)))
spelled_parts (opened ds) = (_, refl)
spelled_parts (titled ds n) = (_, refl)
spelled_parts (kids ds n σ) = (_, refl)
spelled_parts (mixed ds n ns) = (_, refl)
spelled_parts (wanted ds n ns) = (_, refl)
spelled_parts (starless ds n ns) = (_, refl)
spelled_parts (grouped ds n v) = (_, refl)
spelled_parts (full ds n c) = (_, refl)

done_read : (σ : Spot) → Good σ → AllDone (spot_read σ)
done_read (outside ds) g = g
done_read (opened ds) g = g
done_read (titled ds n) g = g
done_read (kids ds n σ) g = g.0
done_read (mixed ds n ns) g = g
done_read (wanted ds n ns) g = g
done_read (starless ds n ns) g = g
done_read (grouped ds n v) g = g.0
done_read (full ds n c) g = g.0

split_tokens : (ss rs : List Sign) (ts : List Token) → signs_of ts ≡ ss ++ rs → (us : List Token) × (vs : List Token) × (ts ≡ us ++ vs) × (signs_of us ≡ ss)
split_tokens [] rs ts e = ([], ts, refl, refl)
split_tokens (s ∷ ss) rs [] e = absurd (false≢true (ap (λ xs. elim xs [ [] ↦ false | y ∷ ys ↦ true ]) e))
split_tokens (s ∷ ss) rs (t ∷ ts) e =
    let tail : signs_of ts ≡ ss ++ rs = ap (λ xs. elim xs [ [] ↦ signs_of ts | y ∷ ys ↦ ys ]) e in
    let head : t.sign ≡ s = ap (λ xs. elim xs [ [] ↦ t.sign | y ∷ ys ↦ y ]) e in
    let (us, vs, k, read) = split_tokens ss rs ts tail in
    (t ∷ us, vs, ap (λ xs. t ∷ xs) k, ap (λ x. x ∷ signs_of us) head ∙ ap (λ xs. s ∷ xs) read)

abbrev FrontText : List ℕ → List Declaration → Type 0
FrontText p ds = (xs : List ℕ) × (ys : List ℕ) × (p ≡ xs ++ ys) × IsText dtd xs ds

front : (p rest : List ℕ) (ts : List Token) (σ : Spot) → Base ts σ → p ≡ written dtd ts ++ rest → FrontText p (spot_read σ)
front p rest ts σ (good, read, fits, are, last) w =
    let (tail, parts) = spelled_parts σ in
    let (us, vs, both, ours) = split_tokens (all_signs (spot_read σ)) tail ts (read ∙ parts) in
    let fit : SignsFit (signs_of us) = (SignsFit-parts (signs_of us) (signs_of vs) (subst SignsFit (ap signs_of both ∙ signs_of-append us vs) are)).0 in (
      written dtd us,
      written dtd vs ++ rest,
      w ∙ ap (λ xs. written dtd xs ++ rest) both ∙ ap (λ xs. xs ++ rest) (written-append us vs) ∙ append_assoc (written dtd us) (written dtd vs) rest,
      (
        us,
        [],
        (ours, (GapsFit-parts ends us vs (subst (GapsFit dtd ends) both fits)).0, fit_all (spot_read σ) (done_read σ good) (subst SignsFit ours fit)),
        ([], tt, refl),
        sym (append-nil (written dtd us)),
      ),
    )

spelt_front : (p : List ℕ) (φ : Phase) → Spelt p φ → FrontText p (read_by φ)
spelt_front p (at σ g) (ts, gap, base, h, t, w) = front p gap ts σ base w
spelt_front p (naming a n) (ts, gap, base, h, is, w) = front p (gap ++ n) ts (name_before a) base w
spelt_front p (word f []) h = absurd h
spelt_front p (word f (c ∷ left)) (ts, gap, done, base, fit, is, w) = front p (gap ++ done) ts (word_before f) base w
spelt_front p (angle ds) (ts, gap, base, h, w) = front p _ ts (outside ds) base w
spelt_front p (bang ds) (ts, gap, base, h, w) = front p _ ts (outside ds) base w
spelt_front p (bar ds) (ts, gap, base, h, w) = front p _ ts (outside ds) base w
spelt_front p (inside ds) (ts, gap, us, base, h, are, w) = front p _ ts (outside ds) base w
spelt_front p (dash ds) (ts, gap, us, base, h, are, w) = front p _ ts (outside ds) base w
spelt_front p (dashes ds) (ts, gap, us, base, h, are, w) = front p _ ts (outside ds) base w

ended_front : (bytes : List ℕ) (q : ℕ) (ds : List Declaration) → q ≤ length bytes → FrontText (take q bytes) ds → (n : ℕ) × (n ≤ q) × IsText dtd (take n bytes) ds
ended_front bytes q ds le (xs, ys, e, t) =
    let size : length xs + length ys ≡ q = sym (length-append xs ys) ∙ ap length (sym e) ∙ length-take-le q bytes le in
    let all : bytes ≡ xs ++ (ys ++ drop q bytes) = sym (take-append-drop q bytes) ∙ ap (λ zs. zs ++ drop q bytes) e ∙ append_assoc xs ys (drop q bytes) in
    (length xs, omega arith, subst (λ zs. IsText dtd zs ds) (sym (ap (take (length xs)) all ∙ take_at xs (ys ++ drop q bytes) (length xs) refl)) t)

pub ended_later : (bytes : List ℕ) (q : ℕ) (φ : Phase) → feeds (take q bytes) first ≡ Some φ
    → (m : ℕ) (es : List Declaration) → m ≤ q → IsText dtd (take m bytes) es → Longer es (read_by φ)
ended_later bytes q φ e m es le t =
    let (g, k) = complete (take m bytes) es t in
    let (zs, more) = take_more m q bytes le in
    subst (Grows es) (ap (feeds zs) (sym k) ∙ sym (feeds_on (take m bytes) zs first) ∙ ap (λ xs. feeds xs first) (sym more) ∙ e)
    (feeds_grow zs es (Some (at (outside es) g)) (as_long es))

pub ends_met : EndsMet
ends_met bytes q φ le e = (ended_front bytes q (read_by φ) le (spelt_front (take q bytes) φ (led (take q bytes) (Some φ) e)), ended_later bytes q φ e)

-- a sign that stands ends within the longest start
stands_begins : (bytes : List ℕ) (q : ℕ) (ss : List Sign) (s : Sign) → SignStands dtd bytes q ss s
    → (q + length (sign_bytes dtd s) ≤ length bytes) × Begins dtd (take (q + length (sign_bytes dtd s)) bytes)
stands_begins bytes q ss s (ts, gap, rest, same, place, all, well, more, ds, of) =
    let whole : bytes ≡ ((written dtd ts ++ gap) ++ sign_bytes dtd s) ++ rest = all ∙ sym (append_assoc (written dtd ts ++ gap) (sign_bytes dtd s) rest) in
    let size : length ((written dtd ts ++ gap) ++ sign_bytes dtd s) ≡ q + length (sign_bytes dtd s) =
    length-append (written dtd ts ++ gap) (sign_bytes dtd s) ∙ ap (λ n. n + length (sign_bytes dtd s)) (sym place) in
    let long : length bytes ≡ length ((written dtd ts ++ gap) ++ sign_bytes dtd s) + length rest = ap length whole ∙ length-append ((written dtd ts ++ gap) ++ sign_bytes dtd s) rest in
    let cut : take (q + length (sign_bytes dtd s)) bytes ≡ (written dtd ts ++ gap) ++ sign_bytes dtd s =
    ap (take (q + length (sign_bytes dtd s))) whole ∙ take_at ((written dtd ts ++ gap) ++ sign_bytes dtd s) rest (q + length (sign_bytes dtd s)) size in
    let tokens : written dtd (ts ++ (token gap s ∷ more)) ≡ ((written dtd ts ++ gap) ++ sign_bytes dtd s) ++ written dtd more =
    written-append ts (token gap s ∷ more) ∙ sym (append_assoc (written dtd ts) gap (sign_bytes dtd s ++ written dtd more))
    ∙ sym (append_assoc (written dtd ts ++ gap) (sign_bytes dtd s) (written dtd more)) in (
      omega arith,
      subst (Begins dtd) (sym cut)
          (written dtd more, ds, (ts ++ (token gap s ∷ more), [], of, ([], tt, refl), sym tokens ∙ sym (append-nil _))),
    )

pub stands_within : (bytes : List ℕ) (q : ℕ) (ss : List Sign) (s : Sign) → SignStands dtd bytes q ss s → q + length (sign_bytes dtd s) ≤ length bytes
stands_within bytes q ss s h = (stands_begins bytes q ss s h).0

pub signs_before : SignsBefore
signs_before bytes q n ss s stands (le, begins, longest) = either (cases_lt n (q + length (sign_bytes dtd s))) (stands_begins bytes q ss s stands)
  where
    either : (n < q + length (sign_bytes dtd s)) ⊎ (q + length (sign_bytes dtd s) ≤ n)
        → (q + length (sign_bytes dtd s) ≤ length bytes) × Begins dtd (take (q + length (sign_bytes dtd s)) bytes) → q + length (sign_bytes dtd s) ≤ n
    either (inl less) h = absurd (longest (q + length (sign_bytes dtd s)) less h.0 h.1)
    either (inr more) h = more

-- the faults
pub faults_met : FaultsMet
faults_met ks bytes kind q = (
  (λ h. (λ ds a. h.0 ds (sound bytes ds a), (stops_there bytes q).1 h.1)),
  (λ h. (λ ds t. h.0 ds (complete bytes ds t), (stops_there bytes q).0 h.1)),
)
faults_met ks bytes again q = (
  (λ (ss, s, h, k). (ss, s, (signs_met bytes q ss s).0 h, k)),
  (λ (ss, s, h, k). (ss, s, (signs_met bytes q ss s).1 h, k)),
)
faults_met ks bytes beyond q = (
  (λ (ss, s, h, k). (ss, s, (signs_met bytes q ss s).0 h, k)),
  (λ (ss, s, h, k). (ss, s, (signs_met bytes q ss s).1 h, k)),
)

-- one reading
one_cause : (c d : Cause) → number dtd c ≤ number dtd d → number dtd d ≤ number dtd c → c ≡ d
one_cause kind kind h k = refl
one_cause kind again h k = absurd (omega arith)
one_cause kind beyond h k = absurd (omega arith)
one_cause again kind h k = absurd (omega arith)
one_cause again again h k = refl
one_cause again beyond h k = absurd (omega arith)
one_cause beyond kind h k = absurd (omega arith)
one_cause beyond again h k = absurd (omega arith)
one_cause beyond beyond h k = refl

both_longer : (ds es : List Declaration) → Longer ds es → Longer es ds → ds ≡ es
both_longer ds es ([], e) k = sym (e ∙ append-nil ds)
both_longer ds es (d ∷ more, e) (less, k) =
    let first_size : length es ≡ length ds + length (d ∷ more) = ap length e ∙ length-append ds (d ∷ more) in
    let second_size : length ds ≡ length es + length less = ap length k ∙ length-append es less in
    let some : length (d ∷ more) ≡ suc (length more) = refl in
    absurd (omega arith)

same_before : (bytes : List ℕ) (q : ℕ) (ds es : List Declaration) → EndBefore dtd bytes q ds → EndBefore dtd bytes q es → ds ≡ es
same_before bytes q ds es ((n, n_le, dt), dl) ((m, m_le, et), el) = both_longer ds es (el n ds n_le dt) (dl m es m_le et)

same_place : (c d : Cause) (q r : ℕ) → (q < r) ⊎ ((q ≡ r) × (number dtd c ≤ number dtd d)) → (r < q) ⊎ ((r ≡ q) × (number dtd d ≤ number dtd c)) → (c ≡ d) × (q ≡ r)
same_place c d q r (inl h) (inl k) = absurd (omega arith)
same_place c d q r (inl h) (inr k) = absurd (omega arith)
same_place c d q r (inr h) (inl k) = absurd (omega arith)
same_place c d q r (inr h) (inr k) = (one_cause c d h.1 k.1, h.0)

pub gives_one : GivesOne dtd
gives_one ks bytes ds es None None g h = (one_reading bytes ds es g.0 h.0, refl)
gives_one ks bytes ds es None (Some (d, r)) g h = absurd (g.1 d r h.0.0)
gives_one ks bytes ds es (Some (c, q)) None g h = absurd (h.1 c q g.0.0)
gives_one ks bytes ds es (Some (c, q)) (Some (d, r)) g h =
    let same = same_place c d q r (g.0.1 d r h.0.0) (h.0.1 c q g.0.0) in
    (same_before bytes q ds es g.1 (subst (λ n. EndBefore dtd bytes n es) (sym same.1) h.1), ap (λ x. Some (x, q)) same.0 ∙ ap (λ x. Some (d, x)) same.1)
