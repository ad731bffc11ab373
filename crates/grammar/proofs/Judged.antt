-- Faults judged by computing. Assumes nothing.
use Rattle.std.proofs.Common.{◌≡◌, ℕ, zero, ◌<◌, ◌≤◌, inl, inr, Bool, true, false, not, ◌&&◌, ◌||◌, List, [], ◌∷◌, ◌++◌, length, take, drop, Some, None, IsSome, is_some, sym, refl, ap, ◌∙◌, subst, arith}
use Rattle.std.specs.Prelude.{nat_le}
use Rattle.std.proofs.lemmas.Bool.{false≢true}
use Rattle.std.proofs.lemmas.Bool.Decides.{nat_tests}
use Rattle.grammar.specs.Words.Sign.{names, opens}
use Rattle.grammar.specs.Notations.Notation.{dtd}
use Rattle.grammar.specs.Declarations.{Declaration, Sign, sign_bytes, all_signs}
use Rattle.grammar.specs.Declarations.Content.{none}
use Rattle.grammar.specs.Declarations.Sign.{element, declared, empty_word, any_word, pcdata_word, inner, ends}
use Rattle.names.specs.Numbering.{is_known, known_after}
use Rattle.grammar.specs.Faults.{Repeats, Beyond, NameBeyond, PartsBeyond, parts_of, names_among, begun, open_groups, is_declared, EndsWell, AllFaultless}
use Rattle.grammar.specs.Faults.Cause.{again, beyond}
use Rattle.grammar.specs.Machine.{Spot, spelled, SignFits, go, goes, refused, feeds, first, spot_read}
use Rattle.grammar.specs.Machine.Spot.{outside}
use Rattle.grammar.specs.Machine.Phase.{at}
use Rattle.grammar.specs.Tried.{Gave, GaveFault}
use Rattle.grammar.proofs.Signs.{SignsFit, SignsFit-append, fit_all}
use Rattle.grammar.proofs.Spelt.{Spelt}
use Rattle.grammar.proofs.Text.{led}
use Rattle.grammar.proofs.Places.{first_spot}
use Rattle.grammar.proofs.Gives.{gives_all, gives_sign}
use Rattle.grammar.proofs.Whole.{goes_spelled, EachFaultless, all_judged, last_of, last_is, parts_run}

abbrev nameless : Declaration
nameless = record { name = []; content = none }

abbrev repeats : List Sign → Sign → Bool
repeats ss (declared n) = is_declared n ss
repeats ss any_word = true
repeats ss s = false

abbrev name_over : List (List ℕ) → List Sign → List ℕ → Bool
name_over ks ss n = nat_le 33 (length n) || (not (is_known (known_after ks (names_among ss)) n) && nat_le 64 (length (known_after ks (names_among ss))))

abbrev spot_over : Spot → Bool
spot_over (outside es) = nat_le 257 (length (parts_of [] (last_of nameless es)))
spot_over σ = false

abbrev parts_over : List Sign → Bool
parts_over ss = elim (goes ss first_spot) [ None ↦ false | Some σ ↦ spot_over σ ]

abbrev over : List (List ℕ) → List Sign → Sign → Bool
over ks ss element = nat_le 32 (begun dtd ss)
over ks ss (declared n) = name_over ks ss n
over ks ss (inner (names n)) = name_over ks ss n
over ks ss (inner opens) = nat_le 16 (open_groups zero ss)
over ks ss ends = parts_over (ss ++ (ends ∷ []))
over ks ss s = false

abbrev pub all_clear : List (List ℕ) → List Sign → List Sign → Bool
all_clear ks ss [] = true
all_clear ks ss (s ∷ rest) = not (repeats ss s) && (not (over ks ss s) && all_clear ks (ss ++ (s ∷ [])) rest)

and_parts : (t u : Bool) → (t && u) ≡ true → (t ≡ true) × (u ≡ true)
and_parts true u e = (refl, e)
and_parts false u e = absurd (false≢true e)

not_parts : (t : Bool) → not t ≡ true → t ≡ false
not_parts true e = absurd (false≢true e)
not_parts false e = refl

no_repeat : (ss : List Sign) (s : Sign) → repeats ss s ≡ false → Repeats ss s → ⊥
no_repeat ss (declared n) e h = false≢true (sym e ∙ h)
no_repeat ss any_word e h = false≢true (sym e)
no_repeat ss element e h = h
no_repeat ss empty_word e h = h
no_repeat ss pcdata_word e h = h
no_repeat ss (inner s) e h = h
no_repeat ss ends e h = h

not_le : (m n : ℕ) → nat_le m n ≡ false → m ≤ n → ⊥
not_le m n e h = grind (arith, nat_tests)

or_parts : (t u : Bool) → (t || u) ≡ false → (t ≡ false) × (u ≡ false)
or_parts true u e = absurd (false≢true (sym e))
or_parts false u e = (refl, e)

no_name_over : (ks : List (List ℕ)) (ss : List Sign) (n : List ℕ) → name_over ks ss n ≡ false → NameBeyond ks ss n → ⊥
no_name_over ks ss n e (inl h) = not_le 33 (length n) (or_parts (nat_le 33 (length n)) _ e).0 (omega arith)
no_name_over ks ss n e (inr (new, many)) =
    let rest = (or_parts (nat_le 33 (length n)) _ e).1 in
    not_le 64 (length (known_after ks (names_among ss))) (ap (λ t. not t && nat_le 64 (length (known_after ks (names_among ss)))) (sym new) ∙ rest) many

no_parts_over : (ss : List Sign) → parts_over ss ≡ false → PartsBeyond ss → ⊥
no_parts_over ss e h =
    let run : parts_over ss ≡ spot_over (outside (h.0 ++ (h.1 ∷ []))) = ap (λ o. elim o [ None ↦ false | Some σ ↦ spot_over σ ]) (parts_run ss h) in
    let it : nat_le 257 (length (parts_of [] h.1)) ≡ false = ap (λ d. nat_le 257 (length (parts_of [] d))) (sym (last_is nameless h.0 h.1)) ∙ sym run ∙ e in
    not_le 257 (length (parts_of [] h.1)) it (let big = h.4 in omega arith)

no_beyond : (ks : List (List ℕ)) (ss : List Sign) (s : Sign) → over ks ss s ≡ false → Beyond dtd ks ss s → ⊥
no_beyond ks ss element e h = not_le 32 (begun dtd ss) e h
no_beyond ks ss (declared n) e h = no_name_over ks ss n e h
no_beyond ks ss (inner (names n)) e h = no_name_over ks ss n e h
no_beyond ks ss (inner opens) e h = not_le 16 (open_groups zero ss) e h
no_beyond ks ss ends e h = no_parts_over (ss ++ (ends ∷ [])) e h
no_beyond ks ss s e h = h

clear_on : (ks : List (List ℕ)) (rest ss : List Sign) → all_clear ks ss rest ≡ true → EachFaultless ks ss rest
clear_on ks [] ss e = tt
clear_on ks (s ∷ rest) ss e =
    let first_part = and_parts (not (repeats ss s)) _ e in
    let second_part = and_parts (not (over ks ss s)) _ first_part.1 in
    ((no_repeat ss s (not_parts _ first_part.0), no_beyond ks ss s (not_parts _ second_part.0)), clear_on ks rest (ss ++ (s ∷ [])) second_part.1)

pub clear : (ks : List (List ℕ)) (us : List Sign) → all_clear ks [] us ≡ true → AllFaultless dtd ks us
clear ks us e = all_judged ks us (clear_on ks us [] e)

is_le : (m n : ℕ) → nat_le m n ≡ true → m ≤ n
is_le m n e = grind (arith, nat_tests)

-- rows
pub gave : (bytes : List ℕ) (ds : List Declaration) (g : Bool) → feeds bytes first ≡ Some (at (outside ds) g) → all_clear [] [] (all_signs ds) ≡ true → Gave bytes (length ds)
gave bytes ds g e c = (ds, refl, gives_all [] bytes ds (g, e) (clear [] (all_signs ds) c))

pub gave_sign : (bytes : List ℕ) (q : ℕ) (s : Sign) (σ : Spot) (h : Bool) → feeds (take q bytes) first ≡ Some (at σ h) → nat_le q (length bytes) ≡ true
    → refused h σ s ≡ false → IsSome (go σ s) → SignFits s → drop q bytes ≡ sign_bytes dtd s ++ drop (length (sign_bytes dtd s)) (drop q bytes)
    → EndsWell s (drop (length (sign_bytes dtd s)) (drop q bytes)) → all_clear [] [] (spelled σ) ≡ true
    → (Repeats (spelled σ) s → GaveFault bytes (length (spot_read σ)) again q)
    × ((Repeats (spelled σ) s → ⊥) → Beyond dtd [] (spelled σ) s → GaveFault bytes (length (spot_read σ)) beyond q)
gave_sign bytes q s σ h e le r some is d well c =
    let g = gives_sign [] bytes q (spelled σ) s (at σ h)
    (at σ h, σ, h, drop (length (sign_bytes dtd s)) (drop q bytes), is_le q (length bytes) le, e, (refl, refl), refl, r, some, is, d, well) e (clear [] (spelled σ) c) in
    ((λ x. (spot_read σ, refl, g.0 x)), (λ new x. (spot_read σ, refl, g.1 new x)))

-- over 256 parts
parts_there : (ss : List Sign) (ds : List Declaration) (d : Declaration) → SignsFit ss → goes ss first_spot ≡ Some (outside (ds ++ (d ∷ []))) → 256 < length (parts_of [] d) → PartsBeyond ss
parts_there ss ds d fit e big =
    let (read, good) = goes_spelled ss (outside []) (outside (ds ++ (d ∷ []))) tt e in
    (ds, d, sym read, fit_all (ds ++ (d ∷ [])) good (subst SignsFit (sym read) fit), big)

spelt_fit : (p : List ℕ) (σ : Spot) (h : Bool) → Spelt p (at σ h) → SignsFit (spelled σ)
spelt_fit p σ h (ts, gap, base, g, t, w) = subst SignsFit base.1 base.3

pub gave_parts : (bytes : List ℕ) (q : ℕ) (σ : Spot) (h : Bool) (ds : List Declaration) (d : Declaration) → feeds (take q bytes) first ≡ Some (at σ h) → nat_le q (length bytes) ≡ true
    → refused h σ ends ≡ false → go σ ends ≡ Some (outside (ds ++ (d ∷ []))) → drop q bytes ≡ sign_bytes dtd ends ++ drop 1 (drop q bytes)
    → goes (spelled σ ++ (ends ∷ [])) first_spot ≡ Some (outside (ds ++ (d ∷ []))) → nat_le 257 (length (parts_of [] d)) ≡ true
    → all_clear [] [] (spelled σ) ≡ true → GaveFault bytes (length (spot_read σ)) beyond q
gave_parts bytes q σ h ds d e le r g w run big c =
    let fit : SignsFit (spelled σ) = spelt_fit (take q bytes) σ h (led (take q bytes) (Some (at σ h)) e) in
    let all : SignsFit (spelled σ ++ (ends ∷ [])) = SignsFit-append (spelled σ) (ends ∷ []) fit (tt, tt) in
    let many : 257 ≤ length (parts_of [] d) = is_le 257 (length (parts_of [] d)) big in
    (gave_sign bytes q ends σ h e le r (ap is_some g) tt w tt c).1 (λ x. x) (parts_there (spelled σ ++ (ends ∷ [])) ds d all run (omega arith))
