-- Each text gives something, and first the declarations of a front that has no fault. Assumes nothing.
use Rattle.std.proofs.Common.{◌≡◌, ℕ, zero, suc, ◌+◌, ◌<◌, ◌≤◌, ◌⊎◌, inl, inr, Bool, true, false, List, [], ◌∷◌, ◌++◌, length, take, Some, None, Option, is_some, sym, refl, ap, ◌∙◌, subst, arith, length-append}
use Rattle.std.proofs.lemmas.List.{append_assoc, append-nil, take_all}
use Rattle.std.proofs.lemmas.Bool.{false≢true, cases_lt}
use Rattle.grammar.specs.Words.Sign.{names, opens}
use Rattle.grammar.specs.Notations.Notation.{dtd}
use Rattle.grammar.specs.Declarations.{Declaration, Sign, IsText, AreDeclarations, all_signs}
use Rattle.grammar.specs.Declarations.Sign.{element, declared, empty_word, any_word, pcdata_word, inner, ends}
use Rattle.names.specs.Numbering.{is_known, known_after}
use Rattle.grammar.specs.Faults.{LongestStart, SignStands, Repeats, Beyond, NameBeyond, PartsBeyond, parts_of, names_among, begun, open_groups, is_declared, Cause, Gives, Faultless, AllFaultless}
use Rattle.grammar.specs.Faults.Cause.{kind, again, beyond}
use Rattle.grammar.specs.Machine.{Spot, spelled, go, goes, Phase, feeds, first, Accepts, Stops, Met, stop_of, is_outside, is_end, is_accepted, read_by, signs_by, GivesSome, GivesFront}
use Rattle.grammar.specs.Machine.Spot.{outside}
use Rattle.grammar.specs.Machine.Phase.{at}
use Rattle.grammar.proofs.Signs.{Good, Sound, go_sound, SignsFit, SignsFit-parts, no_spot, goes_none, all_go, fit_all}
use Rattle.grammar.proofs.Fed.{same_some}
use Rattle.grammar.proofs.Text.{complete}
use Rattle.grammar.proofs.Places.{signs_met, shorter, first_spot}
use Rattle.grammar.proofs.Faults.{ended_later}
use Rattle.grammar.proofs.Order.{signs_read, not_across}
use Rattle.grammar.proofs.Gives.{faultless_grows, gives_all, gives_kind, gives_sign}
use Rattle.grammar.proofs.Computed.{stops_from, run_ended}
use Rattle.grammar.proofs.Stood.{signs_stood}

abbrev Decided : Type 0 → Type 0
Decided P = P ⊎ (P → ⊥)

-- decisions
bool_decided : (t : Bool) → Decided (t ≡ true)
bool_decided true = inl refl
bool_decided false = inr false≢true

not_decided : (t : Bool) → Decided (t ≡ false)
not_decided true = inr (λ e. false≢true (sym e))
not_decided false = inl refl

le_decided : (m n : ℕ) → Decided (m ≤ n)
le_decided m n = either (cases_lt n m)
  where
    either : (n < m) ⊎ (m ≤ n) → Decided (m ≤ n)
    either (inl h) = inr (λ k. absurd (omega arith))
    either (inr h) = inl h

lt_decided : (m n : ℕ) → Decided (m < n)
lt_decided m n = either (cases_lt m n)
  where
    either : (m < n) ⊎ (n ≤ m) → Decided (m < n)
    either (inl h) = inl h
    either (inr h) = inr (λ k. absurd (omega arith))

both_decided : (P Q : Type 0) → Decided P → Decided Q → Decided (P × Q)
both_decided P Q (inl p) (inl q) = inl (p, q)
both_decided P Q (inl p) (inr q) = inr (λ x. q x.1)
both_decided P Q (inr p) q = inr (λ x. p x.0)

one_decided : (P Q : Type 0) → Decided P → Decided Q → Decided (P ⊎ Q)
one_decided P Q (inl p) q = inl (inl p)
one_decided P Q (inr p) (inl q) = inl (inr q)
one_decided P Q (inr p) (inr q) = inr (λ x. neither p q x)
  where
    neither : (P → ⊥) → (Q → ⊥) → P ⊎ Q → ⊥
    neither f g (inl x) = f x
    neither f g (inr x) = g x

repeats_decided : (ss : List Sign) (s : Sign) → Decided (Repeats ss s)
repeats_decided ss (declared n) = bool_decided (is_declared n ss)
repeats_decided ss any_word = inl tt
repeats_decided ss element = inr (λ x. x)
repeats_decided ss empty_word = inr (λ x. x)
repeats_decided ss pcdata_word = inr (λ x. x)
repeats_decided ss (inner s) = inr (λ x. x)
repeats_decided ss ends = inr (λ x. x)

name_decided : (ks : List (List ℕ)) (ss : List Sign) (n : List ℕ) → Decided (NameBeyond ks ss n)
name_decided ks ss n =
    one_decided _ _ (lt_decided 32 (length n))
    (both_decided _ _ (not_decided (is_known (known_after ks (names_among ss)) n)) (le_decided 64 (length (known_after ks (names_among ss)))))

-- the declarations of signs
pub goes_spelled : (ss : List Sign) (σ τ : Spot) → Good σ → goes ss (Some σ) ≡ Some τ → (spelled τ ≡ spelled σ ++ ss) × Good τ
goes_spelled [] σ τ good e = subst (λ x. (spelled x ≡ spelled σ ++ []) × Good x) (same_some σ τ e) (sym (append-nil (spelled σ)), good)
goes_spelled (s ∷ ss) σ τ good e = went (λ ρ well r. goes_spelled ss ρ τ well r) (go σ s) refl e
  where
    went : ((ρ : Spot) → Good ρ → goes ss (Some ρ) ≡ Some τ → (spelled τ ≡ spelled ρ ++ ss) × Good τ)
        → (o : Option Spot) → go σ s ≡ o → goes ss o ≡ Some τ → (spelled τ ≡ spelled σ ++ (s ∷ ss)) × Good τ
    went others None k r = no_spot τ (sym (goes_none ss) ∙ r)
    went others (Some ρ) k r =
        let sound : Sound σ s (Some ρ) = subst (Sound σ s) k (go_sound σ s good) in
        let (read, well) = others ρ sound.1 r in
        (read ∙ ap (λ xs. xs ++ ss) sound.0 ∙ append_assoc (spelled σ) (s ∷ []) ss, well)

abbrev Snoc : List Declaration → Type 0
Snoc es = (es ≡ []) ⊎ ((ds : List Declaration) × (d : Declaration) × (es ≡ ds ++ (d ∷ [])))

snoc : (es : List Declaration) → Snoc es
snoc [] = inl refl
snoc (e ∷ es) = onto (snoc es)
  where
    onto : Snoc es → Snoc (e ∷ es)
    onto (inl k) = inr ([], e, ap (λ x. e ∷ x) k)
    onto (inr (ds, d, k)) = inr (e ∷ ds, d, ap (λ x. e ∷ x) k)

abbrev pub last_of : Declaration → List Declaration → Declaration
last_of d [] = d
last_of d (e ∷ es) = last_of e es

pub last_is : (f : Declaration) (ds : List Declaration) (d : Declaration) → last_of f (ds ++ (d ∷ [])) ≡ d
last_is f [] d = refl
last_is f (e ∷ ds) d = last_is e ds d

abbrev read_of : List Declaration → Option Spot → List Declaration
read_of ds None = ds
read_of ds (Some (outside es)) = es
read_of ds (Some σ) = ds

pub parts_run : (ss : List Sign) (h : PartsBeyond ss) → goes ss first_spot ≡ Some (outside (h.0 ++ (h.1 ∷ [])))
parts_run ss (ds, d, e, are, big) = ap (λ x. goes x first_spot) e ∙ all_go (ds ++ (d ∷ [])) [] are

not_outside : {X : Type 0} (σ : Spot) (es : List Declaration) → is_outside σ ≡ false → Some σ ≡ Some (outside es) → X
not_outside σ es out e = absurd (false≢true (sym out ∙ ap is_outside (same_some σ (outside es) e)))

parts_decided : (ss : List Sign) → SignsFit ss → Decided (PartsBeyond ss)
parts_decided ss fit = by_run (goes ss first_spot) refl
  where
    by_last : (es : List Declaration) → goes ss first_spot ≡ Some (outside es) → Snoc es → Decided (PartsBeyond ss)
    by_last es e (inl k) = inr (λ h.
        let same : es ≡ h.0 ++ (h.1 ∷ []) = ap (read_of es) (sym e ∙ parts_run ss h) in
        let size : length es ≡ length (h.0 ++ (h.1 ∷ [])) = ap length same in
        let none : length es ≡ 0 = ap length k in
        let some : length (h.0 ++ (h.1 ∷ [])) ≡ length h.0 + 1 = length-append h.0 (h.1 ∷ []) in
        absurd (omega arith))
    by_last es e (inr (ds, d, k)) = by_size (cases_lt 256 (length (parts_of [] d)))
      where
        by_size : (256 < length (parts_of [] d)) ⊎ (length (parts_of [] d) ≤ 256) → Decided (PartsBeyond ss)
        by_size (inl big) =
            let (read, good) = goes_spelled ss (outside []) (outside es) tt e in
            let are : AreDeclarations es = fit_all es good (subst SignsFit (sym read) fit) in
            inl (ds, d, sym read ∙ ap all_signs k, subst AreDeclarations k are, big)
        by_size (inr small) = inr (λ h.
            let same : es ≡ h.0 ++ (h.1 ∷ []) = ap (read_of es) (sym e ∙ parts_run ss h) in
            let it : h.1 ≡ d = sym (last_is d h.0 h.1) ∙ ap (last_of d) (sym same ∙ k) ∙ last_is d ds d in
            let big : 256 < length (parts_of [] d) = subst (λ x. 256 < length (parts_of [] x)) it h.4 in
            absurd (omega arith))

    by_spot : (σ : Spot) → goes ss first_spot ≡ Some σ → Decided (PartsBeyond ss)
    by_spot (outside es) e = by_last es e (snoc es)
    by_spot σ e = inr (λ h. not_outside σ (h.0 ++ (h.1 ∷ [])) refl (sym e ∙ parts_run ss h))

    by_run : (o : Option Spot) → goes ss first_spot ≡ o → Decided (PartsBeyond ss)
    by_run None e = inr (λ h. no_spot (outside (h.0 ++ (h.1 ∷ []))) (sym e ∙ parts_run ss h))
    by_run (Some σ) e = by_spot σ e

beyond_decided : (ks : List (List ℕ)) (ss : List Sign) (s : Sign) → SignsFit (ss ++ (s ∷ [])) → Decided (Beyond dtd ks ss s)
beyond_decided ks ss element fit = le_decided 32 (begun dtd ss)
beyond_decided ks ss (declared n) fit = name_decided ks ss n
beyond_decided ks ss (inner (names n)) fit = name_decided ks ss n
beyond_decided ks ss (inner opens) fit = le_decided 16 (open_groups zero ss)
beyond_decided ks ss ends fit = parts_decided (ss ++ (ends ∷ [])) fit
beyond_decided ks ss s fit = inr (λ x. x)

-- the first sign at fault
abbrev Verdict : List (List ℕ) → List Sign → Type 0
Verdict ks us =
    AllFaultless dtd ks us
    ⊎ ((ss : List Sign) × (s : Sign) × (more : List Sign) × (us ≡ (ss ++ (s ∷ [])) ++ more) × AllFaultless dtd ks ss
    × (Repeats ss s ⊎ ((Repeats ss s → ⊥) × Beyond dtd ks ss s)))

walk : (ks : List (List ℕ)) (rest ss : List Sign) → AllFaultless dtd ks ss → SignsFit (ss ++ rest) → Verdict ks (ss ++ rest)
walk ks [] ss all fit = inl (subst (AllFaultless dtd ks) (sym (append-nil ss)) all)
walk ks (s ∷ rest) ss all fit =
    judged (repeats_decided ss s) (beyond_decided ks ss s (SignsFit-parts (ss ++ (s ∷ [])) rest (subst SignsFit (sym (append_assoc ss (s ∷ []) rest)) fit)).0)
    (λ one. subst (Verdict ks) (append_assoc ss (s ∷ []) rest)
    (walk ks rest (ss ++ (s ∷ [])) ((faultless_grows ks).1 ss s all one) (subst SignsFit (sym (append_assoc ss (s ∷ []) rest)) fit)))
  where
    judged : Decided (Repeats ss s) → Decided (Beyond dtd ks ss s) → (Faultless dtd ks ss s → Verdict ks (ss ++ (s ∷ rest))) → Verdict ks (ss ++ (s ∷ rest))
    judged (inl r) b on = inr (ss, s, rest, sym (append_assoc ss (s ∷ []) rest), all, inl r)
    judged (inr new) (inl b) on = inr (ss, s, rest, sym (append_assoc ss (s ∷ []) rest), all, inr (new, b))
    judged (inr new) (inr in_it) on = on (new, in_it)

-- what the text gives
abbrev Given : List (List ℕ) → List ℕ → Type 0
Given ks bytes = (ds : List Declaration) × (a : Option (Cause × ℕ)) × Gives dtd ks bytes ds a

by_sign : (ks : List (List ℕ)) (bytes : List ℕ) (q : ℕ) (ss : List Sign) (s : Sign) → Met bytes q ss s → AllFaultless dtd ks ss
    → Repeats ss s ⊎ ((Repeats ss s → ⊥) × Beyond dtd ks ss s) → Given ks bytes
by_sign ks bytes q ss s (φ, σ, h, rest, le, e, st, read, r, some, fit, d, well) all bad =
    either (gives_sign ks bytes q ss s φ (φ, σ, h, rest, le, e, st, read, r, some, fit, d, well) e all) bad
  where
    either : (Repeats ss s → Gives dtd ks bytes (read_by φ) (Some (again, q))) × ((Repeats ss s → ⊥) → Beyond dtd ks ss s → Gives dtd ks bytes (read_by φ) (Some (beyond, q)))
        → Repeats ss s ⊎ ((Repeats ss s → ⊥) × Beyond dtd ks ss s) → Given ks bytes
    either g (inl x) = (read_by φ, Some (again, q), g.0 x)
    either g (inr (new, x)) = (read_by φ, Some (beyond, q), g.1 new x)

accepted_whole : (bytes : List ℕ) (n : ℕ) (ds : List Declaration) (φ : Phase) → Stops bytes n → Accepts bytes ds → feeds (take n bytes) first ≡ Some φ → signs_by φ ≡ all_signs ds
accepted_whole bytes n ds φ (le, some, stop) (g, e) k = either (cases_lt n (length bytes))
  where
    whole : feeds (take (length bytes) bytes) first ≡ Some (at (outside ds) g)
    whole = ap (λ x. feeds x first) (take_all (length bytes) bytes (omega arith)) ∙ e

    either : (n < length bytes) ⊎ (length bytes ≤ n) → signs_by φ ≡ all_signs ds
    either (inl less) = absurd (false≢true (ap is_some (sym (stop less)) ∙ shorter bytes (suc n) (length bytes) (omega arith) (ap is_some whole)))
    either (inr most) =
        let same : take n bytes ≡ bytes = take_all n bytes most in
        ap (λ x. elim x [ None ↦ signs_by φ | Some ψ ↦ signs_by ψ ]) (sym k ∙ ap (λ x. feeds x first) same ∙ e)

by_end : (ks : List (List ℕ)) (bytes : List ℕ) (n : ℕ) (φ : Phase) → Stops bytes n → feeds (take n bytes) first ≡ Some φ → AllFaultless dtd ks (signs_by φ) → Given ks bytes
by_end ks bytes n φ stops e all = either (is_accepted bytes) refl
  where
    either : (t : Bool) → is_accepted bytes ≡ t → Given ks bytes
    either true k =
        let (ds, g, a) = run_ended (feeds bytes first) k in
        (ds, None, gives_all ks bytes ds (g, a) (subst (AllFaultless dtd ks) (accepted_whole bytes n ds φ stops (g, a) e) all))
    either false k = (
      read_by φ,
      Some (kind, n),
      gives_kind ks bytes n φ (λ ds a. false≢true (sym k ∙ ap (λ o. elim o [ None ↦ false | Some χ ↦ is_end χ ]) a.1)) stops e all,
    )

pub gives_some : GivesSome
gives_some ks bytes = by_run (feeds (take (stop_of bytes) bytes) first) refl
  where
    stops : Stops bytes (stop_of bytes)
    stops = stops_from bytes [] (at (outside []) false) refl

    by_verdict : (φ : Phase) → feeds (take (stop_of bytes) bytes) first ≡ Some φ
        → ((ss : List Sign) (s : Sign) (more : List Sign) → signs_by φ ≡ (ss ++ (s ∷ [])) ++ more → (q : ℕ) × SignStands dtd bytes q ss s) → Verdict ks (signs_by φ) → Given ks bytes
    by_verdict φ e stood (inl all) = by_end ks bytes (stop_of bytes) φ stops e all
    by_verdict φ e stood (inr (ss, s, more, parts, all, bad)) =
        let (q, h) = stood ss s more parts in
        by_sign ks bytes q ss s ((signs_met bytes q ss s).0 h) all bad

    by_run : (o : Option Phase) → feeds (take (stop_of bytes) bytes) first ≡ o → Given ks bytes
    by_run None e = absurd (false≢true (ap is_some (sym e) ∙ stops.1))
    by_run (Some φ) e =
        let (fit, stood) = signs_stood bytes (stop_of bytes) φ stops e in
        by_verdict φ e stood (walk ks (signs_by φ) [] (faultless_grows ks).0 fit)

-- a front without fault
abbrev Front : List Declaration → List Declaration → Type 0
Front es ds = (more : List Declaration) × (ds ≡ es ++ more)

behind : (ks : List (List ℕ)) (bytes : List ℕ) (m q : ℕ) (es : List Declaration) (ss : List Sign) (s : Sign) → m ≤ length bytes → IsText dtd (take m bytes) es
    → AllFaultless dtd ks (all_signs es) → SignStands dtd bytes q ss s → Repeats ss s ⊎ Beyond dtd ks ss s → m ≤ q
behind ks bytes m q es ss s le t all h bad = either (cases_lt q m) (complete (take m bytes) es t)
  where
    faulty : Faultless dtd ks ss s → Repeats ss s ⊎ Beyond dtd ks ss s → ⊥
    faulty f (inl x) = f.0 x
    faulty f (inr x) = f.1 x

    either : (q < m) ⊎ (m ≤ q) → Accepts (take m bytes) es → m ≤ q
    either (inr k) a = k
    either (inl k) (g, e) =
        let (more, is) = signs_read bytes q m ss s (at (outside es) g) h (not_across bytes q m ss s es g h le e k) le e in
        absurd (faulty (all ss s more is) bad)

longest_behind : (bytes : List ℕ) (m q : ℕ) (es : List Declaration) → m ≤ length bytes → IsText dtd (take m bytes) es → LongestStart dtd bytes q → m ≤ q
longest_behind bytes m q es le t (le2, begins, longest) = either (cases_lt q m)
  where
    either : (q < m) ⊎ (m ≤ q) → m ≤ q
    either (inl k) = absurd (longest m k le ([], es, subst (λ x. IsText dtd x es) (sym (append-nil (take m bytes))) t))
    either (inr k) = k

pub gives_front : GivesFront
gives_front ks bytes m es ds None le t all g =
    let (i, e) = complete bytes ds g.0 in
    ended_later bytes (length bytes) (at (outside ds) i) (ap (λ x. feeds x first) (take_all (length bytes) bytes (omega arith)) ∙ e) m es le t
gives_front ks bytes m es ds (Some (kind, q)) le t all g = g.1.1 m es (longest_behind bytes m q es le t g.0.0.1) t
gives_front ks bytes m es ds (Some (again, q)) le t all g =
    let (ss, s, h, x) = g.0.0 in
    g.1.1 m es (behind ks bytes m q es ss s le t all h (inl x)) t
gives_front ks bytes m es ds (Some (beyond, q)) le t all g =
    let (ss, s, h, x) = g.0.0 in
    g.1.1 m es (behind ks bytes m q es ss s le t all h (inr x)) t

-- judged sign by sign
abbrev pub EachFaultless : List (List ℕ) → List Sign → List Sign → Type 0
EachFaultless ks ss [] = Unit {0}
EachFaultless ks ss (s ∷ rest) = Faultless dtd ks ss s × EachFaultless ks (ss ++ (s ∷ [])) rest

judged_on : (ks : List (List ℕ)) (rest ss : List Sign) → AllFaultless dtd ks ss → EachFaultless ks ss rest → AllFaultless dtd ks (ss ++ rest)
judged_on ks [] ss all h = subst (AllFaultless dtd ks) (sym (append-nil ss)) all
judged_on ks (s ∷ rest) ss all h =
    subst (AllFaultless dtd ks) (append_assoc ss (s ∷ []) rest) (judged_on ks rest (ss ++ (s ∷ [])) ((faultless_grows ks).1 ss s all h.0) h.1)

pub all_judged : (ks : List (List ℕ)) (us : List Sign) → EachFaultless ks [] us → AllFaultless dtd ks us
all_judged ks us h = judged_on ks us [] (faultless_grows ks).0 h

pub short_name : (ks : List (List ℕ)) (ss : List Sign) (n : List ℕ) → length n ≤ 32 → length (known_after ks (names_among ss)) < 64 → NameBeyond ks ss n → ⊥
short_name ks ss n h k (inl x) = absurd (omega arith)
short_name ks ss n h k (inr x) = let many = x.1 in absurd (omega arith)

pub few_parts : (ss : List Sign) (ds : List Declaration) (d : Declaration) → goes ss first_spot ≡ Some (outside (ds ++ (d ∷ []))) → length (parts_of [] d) ≤ 256 → PartsBeyond ss → ⊥
few_parts ss ds d e small h =
    let same : ds ++ (d ∷ []) ≡ h.0 ++ (h.1 ∷ []) = ap (read_of []) (sym e ∙ parts_run ss h) in
    let it : h.1 ≡ d = sym (last_is d h.0 h.1) ∙ ap (last_of d) (sym same) ∙ last_is d ds d in
    let big : 256 < length (parts_of [] d) = subst (λ x. 256 < length (parts_of [] x)) it h.4 in
    absurd (omega arith)
