-- How far a report is written. Assumes nothing.
use Rattle.std.proofs.Common.{◌≡◌, ℕ, zero, suc, ◌+◌, ◌-◌, ◌^◌, ◌<◌, ◌≤◌, Bool, true, false, List, [], ◌∷◌, ◌++◌, length, map, take, get_or, Some, None, Option, sym, refl, ap, ◌∙◌, subst, arith, length-append, All}
use Rattle.std.specs.Prelude.{cond, not, fold, filter, flat_map, is_none, is_some}
use Rattle.std.specs.Borrow.{Bor}
use Rattle.std.specs.Option.{option_copied}
use Rattle.std.proofs.lemmas.Bool.{false≢true}
use Rattle.std.specs.Io.KnownBytes.{Appends}
use Rattle.std.proofs.lemmas.List.{append_assoc, append-nil, map-append, take_more}
use Rattle.std.proofs.lemmas.List.Sums.{fold-append}
use Rattle.std.proofs.lemmas.List.Elements.{All-append, filter-append}
use Rattle.std.proofs.lemmas.Grind.{flat_map-append}
use Rattle.std.proofs.lemmas.List.Concat.{flat_map-cons}
use Rattle.listing.specs.declared.listed.Listed.{Listed}
use Rattle.report.specs.declared.finding.Finding.{Finding}
use Rattle.report.specs.declared.finding.Finding.TheVariants.{Included, Breaks, Conflict, Alone}
use Rattle.report.specs.declared.side.Side.{Side}
use Rattle.report.specs.declared.tally.Tally.{Tally}
use Rattle.report.specs.Findings.{declared_as, FindingIs}
use Rattle.report.specs.Lines.{side_of}
use Rattle.report.specs.Reports.{written_line, sent_said, missing_of, missing_said}
use Rattle.report.specs.Tallies.{tally_with, tally_of, no_tally, sums_fit}

-- bytes that grow
pub grown_none : (o : Option (List ℕ)) → Appends o o []
grown_none None = tt
grown_none (Some xs) = sym (append-nil xs)

pub grown_on : (a b c : Option (List ℕ)) (xs ys : List ℕ) → Appends a b xs → Appends b c ys → Appends a c (xs ++ ys)
grown_on None b c xs ys h k = tt
grown_on (Some zs) None c xs ys h k = absurd h
grown_on (Some zs) (Some bs) None xs ys h k = absurd k
grown_on (Some zs) (Some bs) (Some cs) xs ys h k = k ∙ ap (λ vs. vs ++ ys) h ∙ append_assoc zs xs ys

pub grown_same : (a b : Option (List ℕ)) (xs ys : List ℕ) → xs ≡ ys → Appends a b xs → Appends a b ys
grown_same a b xs ys e h = subst (Appends a b) e h

-- one element more
pub one_more : {X : Type 0} (xs : List X) (i : ℕ) (x : X) → i < length xs → x ≡ get_or xs i x → take (i + 1) xs ≡ take i xs ++ (x ∷ [])
one_more xs i x lt e = take_more xs i x lt ∙ ap (λ y. take i xs ++ (y ∷ [])) (sym e)

pub single : {X : Type 0} (P : X → Type 0) (x : X) → P x → All P (x ∷ [])
single P x h zero d lt = h
single P x h (suc k) d lt = absurd (omega arith)

one_line : {X : Type 0} (f : X → List ℕ) (x : X) → flat_map f (x ∷ []) ≡ f x
one_line f x = flat_map-cons f x [] ∙ append-nil (f x)

-- so many of the sent elements are written
abbrev pub small : Tally → ℕ → Type 0
small t n = (t.included ≤ n) × (t.broken ≤ n) × (t.conflicts ≤ n) × (t.alone ≤ n)

abbrev pub SentSofar : List (List ℕ) → Side → Side → ℕ → Option (List ℕ) → Option (List ℕ) → Tally → Type 0
SentSofar names sent expected n old new t =
    (ps : List (Listed × Finding)) × (map (λ p. p.0) ps ≡ take n sent.elements.now) × All (λ p. FindingIs p.0 expected.elements.now p.1) ps
    × Appends old new (sent_said names sent expected ps) × (t ≡ tally_of (map (λ p. p.1) ps)) × small t n

pub sent_none : (names : List (List ℕ)) (sent expected : Side) (o : Option (List ℕ)) → SentSofar names sent expected 0 o o no_tally
sent_none names sent expected o = ([], refl, search arith, grown_none o, refl, (omega arith, omega arith, omega arith, omega arith))

still_small : (t : Tally) (f : Finding) (n : ℕ) → small t n → small (tally_with t f) (n + 1)
still_small t Included n (a, b, c, d) = (omega arith, omega arith, omega arith, omega arith)
still_small t (Breaks v) n (a, b, c, d) = (omega arith, omega arith, omega arith, omega arith)
still_small t (Conflict name part) n (a, b, c, d) = (omega arith, omega arith, omega arith, omega arith)
still_small t Alone n (a, b, c, d) = (omega arith, omega arith, omega arith, omega arith)

pub sent_more : (names : List (List ℕ)) (sent expected : Side) (n : ℕ) (a : Listed) (f : Finding) (old mid new : Option (List ℕ)) (t u : Tally) → n < length sent.elements.now
    → a ≡ get_or sent.elements.now n a → FindingIs a expected.elements.now f → Appends mid new (written_line names (side_of sent) (side_of expected) a f)
    → u ≡ tally_with t f → SentSofar names sent expected n old mid t → SentSofar names sent expected (n + 1) old new u
sent_more names sent expected n a f old mid new t u lt is found line tally (ps, elements, all, said, counted, fits) =
    let p : Listed × Finding = (a, f) in (
      ps ++ (p ∷ []),
      map-append (λ q. q.0) ps (p ∷ []) ∙ ap (λ xs. xs ++ (a ∷ [])) elements ∙ sym (one_more sent.elements.now n a lt is),
      All-append (λ q. FindingIs q.0 expected.elements.now q.1) ps (p ∷ []) all (single (λ q. FindingIs q.0 expected.elements.now q.1) p found),
      grown_same old new _ _ (sym (flat_map-append (λ q. written_line names (side_of sent) (side_of expected) q.0 q.1) ps (p ∷ [])
          ∙ ap (λ x. sent_said names sent expected ps ++ x) (one_line (λ q. written_line names (side_of sent) (side_of expected) q.0 q.1) p)))
          (grown_on old mid new (sent_said names sent expected ps) (written_line names (side_of sent) (side_of expected) a f) said line),
      tally ∙ ap (λ x. tally_with x f) counted ∙ sym (ap (λ fs. fold tally_with no_tally fs) (map-append (λ q. q.1) ps (p ∷ [])) ∙ fold-append tally_with no_tally (map (λ q. q.1) ps) (f ∷ [])),
      subst (λ x. small x (n + 1)) (sym tally) (still_small t f n fits),
    )

pub sums_small : (t : Tally) (n : ℕ) → small t n → n < 2 ^ 64 - 1 → sums_fit t
sums_small t n (a, b, c, d) lt = (omega arith, omega arith, omega arith, omega arith)

-- so many of the expected elements are looked at
abbrev pub missing_in : Side → List Listed → List Listed
missing_in sent es = filter (λ e. is_none (declared_as e.symbol sent.elements.now)) es

abbrev pub missing_lines : List (List ℕ) → Side → Side → List Listed → List ℕ
missing_lines names sent expected es = flat_map (λ e. written_line names (side_of expected) (side_of sent) e Alone) es

abbrev pub MissingSofar : List (List ℕ) → Side → Side → ℕ → Option (List ℕ) → Option (List ℕ) → ℕ → Type 0
MissingSofar names sent expected n old new missing =
    Appends old new (missing_lines names sent expected (missing_in sent (take n expected.elements.now)))
    × (missing ≡ length (missing_in sent (take n expected.elements.now))) × (missing ≤ n)

missing_one : (sent : Side) (e : Listed) (b : Bool) → is_none (declared_as e.symbol sent.elements.now) ≡ b → missing_in sent (e ∷ []) ≡ cond b (e ∷ []) []
missing_one sent e b k = ap (λ t. cond t (e ∷ []) []) k

missing_next : (sent expected : Side) (n : ℕ) (e : Listed) → n < length expected.elements.now → e ≡ get_or expected.elements.now n e
    → missing_in sent (take (n + 1) expected.elements.now) ≡ missing_in sent (take n expected.elements.now) ++ missing_in sent (e ∷ [])
missing_next sent expected n e lt is =
    ap (missing_in sent) (one_more expected.elements.now n e lt is) ∙ filter-append (λ x. is_none (declared_as x.symbol sent.elements.now)) (take n expected.elements.now) (e ∷ [])

pub missing_more : (names : List (List ℕ)) (sent expected : Side) (n : ℕ) (e : Listed) (old mid new : Option (List ℕ)) (missing : ℕ) → n < length expected.elements.now
    → e ≡ get_or expected.elements.now n e → is_none (declared_as e.symbol sent.elements.now) ≡ true
    → Appends mid new (written_line names (side_of expected) (side_of sent) e Alone) → MissingSofar names sent expected n old mid missing
    → MissingSofar names sent expected (n + 1) old new (missing + 1)
missing_more names sent expected n e old mid new missing lt is none line (said, count, fits) =
    let before = missing_in sent (take n expected.elements.now) in
    let all : missing_in sent (take (n + 1) expected.elements.now) ≡ before ++ (e ∷ []) =
    missing_next sent expected n e lt is ∙ ap (λ x. before ++ x) (missing_one sent e true none) in
    let f : Listed → List ℕ = λ x. written_line names (side_of expected) (side_of sent) x Alone in (
      grown_same old new _ _ (sym (ap (flat_map f) all ∙ flat_map-append f before (e ∷ []) ∙ ap (λ x. flat_map f before ++ x) (one_line f e)))
          (grown_on old mid new (flat_map f before) (f e) said line),
      ap (λ x. x + 1) count ∙ sym (ap length all ∙ length-append before (e ∷ [])),
      omega arith,
    )

pub missing_passed : (names : List (List ℕ)) (sent expected : Side) (n : ℕ) (e : Listed) (old new : Option (List ℕ)) (missing : ℕ) → n < length expected.elements.now
    → e ≡ get_or expected.elements.now n e → is_none (declared_as e.symbol sent.elements.now) ≡ false → MissingSofar names sent expected n old new missing
    → MissingSofar names sent expected (n + 1) old new missing
missing_passed names sent expected n e old new missing lt is some (said, count, fits) =
    let before = missing_in sent (take n expected.elements.now) in
    let all : missing_in sent (take (n + 1) expected.elements.now) ≡ before =
    missing_next sent expected n e lt is ∙ ap (λ x. before ++ x) (missing_one sent e false some) ∙ append-nil before in
    (subst (λ x. Appends old new (missing_lines names sent expected x)) (sym all) said, count ∙ sym (ap length all), omega arith)

-- whether there is one, of what was found
none_of : (r : Option (Bor Listed)) → is_some r ≡ false → is_none (option_copied r) ≡ true
none_of None e = refl
none_of (Some x) e = absurd (false≢true (sym e))

some_of : (r : Option (Bor Listed)) → is_some r ≡ true → is_none (option_copied r) ≡ false
some_of None e = absurd (false≢true e)
some_of (Some x) e = refl

pub none_there : (r : Option (Bor Listed)) (d : Option Listed) (b : Bool) → option_copied r ≡ d → is_some r ≡ not b → b ≡ true → is_none d ≡ true
none_there r d b same e k = ap is_none (sym same) ∙ none_of r (e ∙ ap not k)

pub some_there : (r : Option (Bor Listed)) (d : Option Listed) (b : Bool) → option_copied r ≡ d → is_some r ≡ not b → b ≡ false → is_none d ≡ false
some_there r d b same e k = ap is_none (sym same) ∙ some_of r (e ∙ ap not k)
