-- What a text gives, from the machine. Assumes nothing.
use Rattle.std.proofs.Common.{◌≡◌, ℕ, ◌+◌, ◌<◌, ◌≤◌, ◌⊎◌, inl, inr, List, [], ◌∷◌, ◌++◌, length, take, Some, sym, refl, ap, ◌∙◌, subst, arith, length-append}
use Rattle.std.proofs.lemmas.List.{take_all}
use Rattle.std.proofs.lemmas.Bool.{cases_lt}
use Rattle.grammar.specs.Notations.Notation.{dtd}
use Rattle.grammar.specs.Declarations.{Sign, sign_bytes}
use Rattle.grammar.specs.Faults.{LongestStart, SignStands, Repeats, Cause, number, FaultAt, Faultless, AllFaultless}
use Rattle.grammar.specs.Faults.Cause.{kind, again, beyond}
use Rattle.grammar.specs.Machine.{Phase, feeds, first, Met, SignFits, signs_by, FaultlessGrows, GivesAll, GivesKind, GivesSign}
use Rattle.grammar.specs.Machine.Spot.{outside}
use Rattle.grammar.specs.Machine.Phase.{at}
use Rattle.grammar.proofs.Text.{sound, complete}
use Rattle.grammar.proofs.Places.{stops_there, signs_met}
use Rattle.grammar.proofs.Faults.{ends_met, signs_before, stands_within}
use Rattle.grammar.proofs.Order.{one_sign, in_order, signs_read, some_bytes}

-- lists of signs
no_snoc : {X : Type 0} (ss : List Sign) (s : Sign) (more : List Sign) → [] ≡ (ss ++ (s ∷ [])) ++ more → X
no_snoc ss s more e =
    let size : 0 ≡ length (ss ++ (s ∷ [])) + length more = ap length e ∙ length-append (ss ++ (s ∷ [])) more in
    let one : length (ss ++ (s ∷ [])) ≡ length ss + 1 = length-append ss (s ∷ []) in
    absurd (omega arith)

tail_same : (b c : Sign) (bs cs : List Sign) → b ∷ bs ≡ c ∷ cs → bs ≡ cs
tail_same b c bs cs e = ap (λ xs. elim xs [ [] ↦ bs | y ∷ ys ↦ ys ]) e

head_same : (b c : Sign) (bs cs : List Sign) → b ∷ bs ≡ c ∷ cs → b ≡ c
head_same b c bs cs e = ap (λ xs. elim xs [ [] ↦ b | y ∷ ys ↦ y ]) e

-- the last sign is the one, or it is among the others
abbrev Among : List Sign → Sign → List Sign → Sign → Type 0
Among us s ss t = ((us ≡ ss) × (s ≡ t)) ⊎ ((less : List Sign) × (us ≡ (ss ++ (t ∷ [])) ++ less))

among : (us : List Sign) (s : Sign) (ss : List Sign) (t : Sign) (more : List Sign) → us ++ (s ∷ []) ≡ (ss ++ (t ∷ [])) ++ more → Among us s ss t
among [] s [] t more e = inl (refl, head_same s t [] more e)
among [] s (r ∷ ss) t more e = no_snoc ss t more (tail_same s r [] ((ss ++ (t ∷ [])) ++ more) e)
among (u ∷ us) s [] t more e = inr (us, ap (λ x. x ∷ us) (head_same u t (us ++ (s ∷ [])) more e))
among (u ∷ us) s (r ∷ ss) t more e =
    onto (head_same u r (us ++ (s ∷ [])) ((ss ++ (t ∷ [])) ++ more) e) (among us s ss t more (tail_same u r (us ++ (s ∷ [])) ((ss ++ (t ∷ [])) ++ more) e))
  where
    onto : u ≡ r → Among us s ss t → Among (u ∷ us) s (r ∷ ss) t
    onto k (inl (same, is)) = inl (ap (λ x. x ∷ us) k ∙ ap (λ x. r ∷ x) same, is)
    onto k (inr (less, is)) = inr (less, ap (λ x. x ∷ us) k ∙ ap (λ x. r ∷ x) is)

pub faultless_grows : FaultlessGrows
faultless_grows ks = ((λ ss s more e. no_snoc ss s more e), (λ us s all one ss t more e. either us s all one ss t (among us s ss t more e)))
  where
    either : (us : List Sign) (s : Sign) → AllFaultless dtd ks us → Faultless dtd ks us s → (ss : List Sign) (t : Sign) → Among us s ss t → Faultless dtd ks ss t
    either us s all one ss t (inl (same, is)) = subst (λ x. Faultless dtd ks ss x) is (subst (λ x. Faultless dtd ks x s) same one)
    either us s all one ss t (inr (less, is)) = all ss t less is

-- no sign that stands is at fault, where all that were read are not
none_stands : (ks : List (List ℕ)) (bytes : List ℕ) (n q : ℕ) (ss : List Sign) (s : Sign) (φ : Phase) → n ≤ length bytes → feeds (take n bytes) first ≡ Some φ
    → AllFaultless dtd ks (signs_by φ) → SignStands dtd bytes q ss s → q + length (sign_bytes dtd s) ≤ n → Faultless dtd ks ss s
none_stands ks bytes n q ss s φ le e all stands within =
    let (more, is) = signs_read bytes q n ss s φ stands within le e in
    all ss s more is

pub gives_all : GivesAll
gives_all ks bytes ds (g, e) all = (sound bytes ds (g, e), none)
  where
    whole : feeds (take (length bytes) bytes) first ≡ Some (at (outside ds) g)
    whole = ap (λ x. feeds x first) (take_all (length bytes) bytes (omega arith)) ∙ e

    clean : (q : ℕ) (ss : List Sign) (s : Sign) → SignStands dtd bytes q ss s → Faultless dtd ks ss s
    clean q ss s h = none_stands ks bytes (length bytes) q ss s (at (outside ds) g) (omega arith) whole all h (stands_within bytes q ss s h)

    none : (c : Cause) (q : ℕ) → FaultAt dtd ks bytes c q → ⊥
    none kind q h = h.0 ds (sound bytes ds (g, e))
    none again q (ss, s, h, k) = (clean q ss s h).0 k
    none beyond q (ss, s, h, k) = (clean q ss s h).1 k

pub gives_kind : GivesKind
gives_kind ks bytes n φ rejects stops e all = (((λ ds t. rejects ds (complete bytes ds t), longest), least), ends_met bytes n φ stops.0 e)
  where
    longest : LongestStart dtd bytes n
    longest = (stops_there bytes n).0 stops

    clean : (q : ℕ) (ss : List Sign) (s : Sign) → SignStands dtd bytes q ss s → Faultless dtd ks ss s
    clean q ss s h = none_stands ks bytes n q ss s φ stops.0 e all h (signs_before bytes q n ss s h longest)

    same : (q : ℕ) → LongestStart dtd bytes q → n ≡ q
    same q h = either (cases_lt n q) (cases_lt q n)
      where
        either : (n < q) ⊎ (q ≤ n) → (q < n) ⊎ (n ≤ q) → n ≡ q
        either (inl x) y = absurd (longest.2 q x h.0 h.1)
        either (inr x) (inl y) = absurd (h.2 n y longest.0 longest.1)
        either (inr x) (inr y) = omega arith

    least : (d : Cause) (r : ℕ) → FaultAt dtd ks bytes d r → (n < r) ⊎ ((n ≡ r) × (number dtd kind ≤ number dtd d))
    least kind r h = inr (same r h.1, omega arith)
    least again r (ss, s, h, k) = absurd ((clean r ss s h).0 k)
    least beyond r (ss, s, h, k) = absurd ((clean r ss s h).1 k)

-- a sign
abbrev AtOrBehind : List (List ℕ) → ℕ → List Sign → Sign → ℕ → List Sign → Sign → Type 0
AtOrBehind ks q ss s r rs t = (q < r) ⊎ (((q ≡ r) × ((ss ≡ rs) × (s ≡ t))) ⊎ Faultless dtd ks rs t)

at_or_behind : (ks : List (List ℕ)) (bytes : List ℕ) (q r : ℕ) (ss rs : List Sign) (s t : Sign) → SignStands dtd bytes q ss s → AllFaultless dtd ks ss → SignStands dtd bytes r rs t
    → AtOrBehind ks q ss s r rs t
at_or_behind ks bytes q r ss rs s t h all k = either (cases_lt q r) (cases_lt r q)
  where
    either : (q < r) ⊎ (r ≤ q) → (r < q) ⊎ (q ≤ r) → AtOrBehind ks q ss s r rs t
    either (inl x) y = inl x
    either (inr x) (inl y) = let (within, (more, is)) = in_order bytes r q rs ss t s k h y in inr (inr (all rs t more is))
    either (inr x) (inr y) =
        let same : q ≡ r = omega arith in
        inr (inl (same, one_sign bytes q ss rs s t h (subst (λ i. SignStands dtd bytes i rs t) (sym same) k)))

stop_behind : (bytes : List ℕ) (q r : ℕ) (ss : List Sign) (s : Sign) → SignStands dtd bytes q ss s → SignFits s → LongestStart dtd bytes r → q < r
stop_behind bytes q r ss s h fit longest =
    let some = some_bytes s fit in
    let within = signs_before bytes q r ss s h longest in
    omega arith

again_least : (ks : List (List ℕ)) (bytes : List ℕ) (q : ℕ) (ss : List Sign) (s : Sign) → SignStands dtd bytes q ss s → SignFits s → AllFaultless dtd ks ss
    → (d : Cause) (r : ℕ) → FaultAt dtd ks bytes d r → (q < r) ⊎ ((q ≡ r) × (15 ≤ number dtd d))
again_least ks bytes q ss s h fit all kind r k = inl (stop_behind bytes q r ss s h fit k.1)
again_least ks bytes q ss s h fit all again r (rs, t, k, x) = either (at_or_behind ks bytes q r ss rs s t h all k)
  where
    either : AtOrBehind ks q ss s r rs t → (q < r) ⊎ ((q ≡ r) × (15 ≤ 15))
    either (inl y) = inl y
    either (inr (inl (same, e))) = inr (same, omega arith)
    either (inr (inr y)) = absurd (y.0 x)
again_least ks bytes q ss s h fit all beyond r (rs, t, k, x) = either (at_or_behind ks bytes q r ss rs s t h all k)
  where
    either : AtOrBehind ks q ss s r rs t → (q < r) ⊎ ((q ≡ r) × (15 ≤ 16))
    either (inl y) = inl y
    either (inr (inl (same, e))) = inr (same, omega arith)
    either (inr (inr y)) = absurd (y.1 x)

beyond_least : (ks : List (List ℕ)) (bytes : List ℕ) (q : ℕ) (ss : List Sign) (s : Sign) → SignStands dtd bytes q ss s → SignFits s → AllFaultless dtd ks ss → (Repeats ss s → ⊥)
    → (d : Cause) (r : ℕ) → FaultAt dtd ks bytes d r → (q < r) ⊎ ((q ≡ r) × (16 ≤ number dtd d))
beyond_least ks bytes q ss s h fit all new kind r k = inl (stop_behind bytes q r ss s h fit k.1)
beyond_least ks bytes q ss s h fit all new again r (rs, t, k, x) = either (at_or_behind ks bytes q r ss rs s t h all k)
  where
    either : AtOrBehind ks q ss s r rs t → (q < r) ⊎ ((q ≡ r) × (16 ≤ 15))
    either (inl y) = inl y
    either (inr (inl (same, e))) = absurd (new (subst (λ y. Repeats y s) (sym e.0) (subst (Repeats rs) (sym e.1) x)))
    either (inr (inr y)) = absurd (y.0 x)
beyond_least ks bytes q ss s h fit all new beyond r (rs, t, k, x) = either (at_or_behind ks bytes q r ss rs s t h all k)
  where
    either : AtOrBehind ks q ss s r rs t → (q < r) ⊎ ((q ≡ r) × (16 ≤ 16))
    either (inl y) = inl y
    either (inr (inl (same, e))) = inr (same, omega arith)
    either (inr (inr y)) = absurd (y.1 x)

met_fits : (bytes : List ℕ) (q : ℕ) (ss : List Sign) (s : Sign) → Met bytes q ss s → SignFits s × (q ≤ length bytes)
met_fits bytes q ss s (φ, σ, h, rest, le, e, st, read, r, some, is, d, well) = (is, le)

pub gives_sign : GivesSign
gives_sign ks bytes q ss s φ met e all =
    let stands = (signs_met bytes q ss s).1 met in
    let (fit, le) = met_fits bytes q ss s met in
    let before = ends_met bytes q φ le e in (
      (λ x. (((ss, s, stands, x), again_least ks bytes q ss s stands fit all), before)),
      (λ new x. (((ss, s, stands, x), beyond_least ks bytes q ss s stands fit all new), before)),
    )
