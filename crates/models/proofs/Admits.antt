-- What the questions of one part leave waiting. Assumes nothing.
use Rattle.std.proofs.Common.{◌≡◌, ℕ, suc, ◌≤◌, Bool, true, false, cond, ◌&&◌, leb, List, [], ◌∷◌, length, is_ok, Some, None, Ok, Err, Option, Result, sym, refl, ap, ◌∙◌, subst, inl, inr, arith}
use Rattle.std.proofs.lemmas.Bool.Decides.{nat_tests}
use Rattle.std.proofs.lemmas.Bool.{cases_eq, leb-true, and_parts, false≢true}
use Rattle.parts.specs.declared.part.Part.{Part}
use Rattle.parts.specs.declared.part.Form.{Form}
use Rattle.parts.specs.declared.part.Form.TheVariants.{Empty, Symbol, Choice, Sequence, Interleave, Count, Nonempty}
use Rattle.parts.specs.Parts.{form_of, are_fields_fit, takes}
use Rattle.models.specs.Trees.{Tree, Bounds}
use Rattle.models.specs.Trees.Tree.{empty}
use Rattle.parts.specs.declared.refusal.PartFault.{PartFault}
use Rattle.parts.specs.Refusals.{Notice, part_notice, at_set}
use Rattle.models.specs.Sheets.{shape, join, symbol_taken, joined, step_by, step, go_on, only, reading, is_model, tree_or, tree}
use Rattle.parts.specs.Stacks.{first_of}
use Rattle.models.specs.Told.{Told, AllFormed}
use Rattle.models.specs.Checking.{flags, flag_taken, Admitted}
use Rattle.models.proofs.Unlike.{err-ok}

-- what fitting fields say of a form's values
abbrev pub FormFits : Form → Type 0
FormFits Empty = Unit {0}
FormFits (Symbol s) = s ≤ 63
FormFits Choice = Unit {0}
FormFits Sequence = Unit {0}
FormFits Interleave = Unit {0}
FormFits (Count repeats) = Bounds repeats.low repeats.high
FormFits Nonempty = Unit {0}

pub form_fits : (p : Part) (f : Form) → form_of p ≡ Some f → are_fields_fit p ≡ true → FormFits f
form_fits p Empty e h = tt
form_fits p (Symbol s) e h = grind (arith, nat_tests)
form_fits p Choice e h = tt
form_fits p Sequence e h = tt
form_fits p Interleave e h = tt
form_fits p (Count repeats) e h =
    (grind (arith, nat_tests), grind (arith, nat_tests), elim (cases_eq repeats.high 0) [ inl z ↦ inl z | inr z ↦ inr (grind (arith, nat_tests), grind (arith, nat_tests)) ])
form_fits p Nonempty e h = tt

-- enough wait, so the form leaves some trees waiting
pub join_enough : (f : Form) (ts : List Tree) → takes f ≤ length ts → (us : List Tree) × (join (shape f) ts ≡ Some us)
join_enough Empty ts h = (_, refl)
join_enough (Symbol s) ts h = (_, refl)
join_enough Choice [] h = absurd (omega arith)
join_enough Choice (r ∷ []) h = absurd (omega arith)
join_enough Choice (r ∷ l ∷ ts) h = (_, refl)
join_enough Sequence [] h = absurd (omega arith)
join_enough Sequence (r ∷ []) h = absurd (omega arith)
join_enough Sequence (r ∷ l ∷ ts) h = (_, refl)
join_enough Interleave [] h = absurd (omega arith)
join_enough Interleave (r ∷ []) h = absurd (omega arith)
join_enough Interleave (r ∷ l ∷ ts) h = (_, refl)
join_enough (Count repeats) [] h = absurd (omega arith)
join_enough (Count repeats) (t ∷ ts) h = (_, refl)
join_enough Nonempty [] h = absurd (omega arith)
join_enough Nonempty (t ∷ ts) h = (_, refl)

abbrev FormedIn : Option (List Tree) → Type 0
FormedIn None = Unit {0}
FormedIn (Some us) = AllFormed us

-- what a form with fitting values makes of well-formed trees is well formed
pub join_formed : (f : Form) (ts : List Tree) → FormFits f → symbol_taken f ts ≡ true → AllFormed ts → FormedIn (join (shape f) ts)
join_formed Empty ts b s h = (tt, h)
join_formed (Symbol x) ts b s h = (b, h)
join_formed Choice [] b s h = tt
join_formed Choice (r ∷ []) b s h = tt
join_formed Choice (r ∷ l ∷ ts) b s h = ((h.1.0, h.0), h.1.1)
join_formed Sequence [] b s h = tt
join_formed Sequence (r ∷ []) b s h = tt
join_formed Sequence (r ∷ l ∷ ts) b s h = ((h.1.0, h.0), h.1.1)
join_formed Interleave [] b s h = tt
join_formed Interleave (r ∷ []) b s h = tt
join_formed Interleave (r ∷ l ∷ ts) b s h = ((h.1.0, h.0), h.1.1)
join_formed (Count repeats) [] b s h = tt
join_formed (Count repeats) (t ∷ ts) b s h = ((h.0, b), h.1)
join_formed Nonempty [] b s h = tt
join_formed Nonempty (t ∷ ts) b s h = ((h.0, s), h.1)

-- the flag taken is the one of the tree taken
pub flag_taken_lem : (f : Form) (ts : List Tree) (vs : List Bool) → Told flags ts vs → flag_taken f (first_of vs) ≡ symbol_taken f ts
flag_taken_lem Empty ts vs h = refl
flag_taken_lem (Symbol s) ts vs h = refl
flag_taken_lem Choice ts vs h = refl
flag_taken_lem Sequence ts vs h = refl
flag_taken_lem Interleave ts vs h = refl
flag_taken_lem (Count repeats) ts vs h = refl
flag_taken_lem Nonempty [] [] h = refl
flag_taken_lem Nonempty [] (v ∷ vs) h = absurd h
flag_taken_lem Nonempty (t ∷ ts) [] h = absurd h
flag_taken_lem Nonempty (t ∷ ts) (v ∷ vs) h = h.0

pub told_length : {V : Type 0} (M : Tree → V → Type 0) (ts : List Tree) (vs : List V) → Told M ts vs → length ts ≡ length vs
told_length M [] [] h = refl
told_length M [] (v ∷ vs) h = absurd h
told_length M (t ∷ ts) [] h = absurd h
told_length M (t ∷ ts) (v ∷ vs) h = ap suc (told_length M ts vs h.1)

module _ (p : Part) (f : Form) (n : ℕ) (ts : List Tree) (vs ws : List Bool) (named : form_of p ≡ Some f) (tell : Told flags ts vs) where
  pub admit_ok : are_fields_fit p ≡ true → takes f ≤ length vs → flag_taken f (first_of vs) ≡ true → AllFormed ts
      → ((us : List Tree) → join (shape f) ts ≡ Some us → AllFormed us → Told flags us ws) → Admitted n (step p ts) (Ok tt) ws
  admit_ok fit enough flag formed k =
      let long : length ts ≡ length vs = told_length flags ts vs tell in
      let (us, e) = join_enough f ts (omega arith) in
      let taken : symbol_taken f ts ≡ true = sym (flag_taken_lem f ts vs tell) ∙ flag in
      let formed_after : AllFormed us = subst FormedIn e (join_formed f ts (form_fits p f named fit) taken formed) in
      rw (named, fit, e, taken) (k us e formed_after, formed_after)

-- the trees that an admitted part leaves waiting
pub admitted_trees : (n : ℕ) (o : Result (List Tree) ℕ) (ws : List Bool) → Admitted n o (Ok tt) ws → (us : List Tree) × (o ≡ Ok us) × Told flags us ws × AllFormed us
admitted_trees n (Ok us) ws h = (us, refl, h.0, h.1)
admitted_trees n (Err question) ws h = absurd h

pub admitted_fault : (n : ℕ) (o : Result (List Tree) ℕ) (fault : PartFault) (ws : List Bool) (rest : List Tree → Result Tree Notice)
    → Admitted n o (Err fault) ws → go_on n o rest ≡ Err (part_notice fault)
admitted_fault n (Ok us) fault ws rest h = absurd h
admitted_fault n (Err question) fault ws rest h = ap Err (sym h)

-- what a part that fails no question makes
joined_made : (o : Option (List Tree)) (holds : Bool) (us : List Tree) → joined o holds ≡ Ok us → (o ≡ Some us) × (holds ≡ true)
joined_made None holds us e = absurd (err-ok _ _ e)
joined_made (Some vs) true us e = (cc, refl)
joined_made (Some vs) false us e = absurd (err-ok _ _ e)

pub stepped : (o : Option Form) (fit : Bool) (ts us : List Tree) → step_by o fit ts ≡ Ok us
    → (f : Form) × (o ≡ Some f) × (fit ≡ true) × (join (shape f) ts ≡ Some us) × (symbol_taken f ts ≡ true)
stepped None fit ts us e = absurd (err-ok _ _ e)
stepped (Some f) true ts us e = let m = joined_made (join (shape f) ts) (symbol_taken f ts) us e in (f, refl, refl, m.0, m.1)
stepped (Some f) false ts us e = absurd (err-ok _ _ e)

pub step_made : (p : Part) (ts us : List Tree) → step p ts ≡ Ok us → AllFormed ts → (f : Form) × (form_of p ≡ Some f) × (join (shape f) ts ≡ Some us) × AllFormed us
step_made p ts us e formed =
    let (f, named, fit, made, taken) = stepped (form_of p) (are_fields_fit p) ts us e in
    (f, named, made, subst FormedIn made (join_formed f ts (form_fits p f named fit) taken formed))

pub went_on : (n : ℕ) (o : Result (List Tree) ℕ) (rest : List Tree → Result Tree Notice) (t : Tree) → go_on n o rest ≡ Ok t → (us : List Tree) × (o ≡ Ok us)
went_on n (Ok us) rest t e = (us, refl)
went_on n (Err question) rest t e = absurd (err-ok _ _ e)

pub only_made : (n : ℕ) (ts : List Tree) (t : Tree) → only n ts ≡ Ok t → ts ≡ t ∷ []
only_made n [] t e = absurd (err-ok _ _ e)
only_made n (u ∷ []) t e = cc
only_made n (u ∷ v ∷ ts) t e = absurd (err-ok _ _ e)

-- a table that is a model has at most 256 parts, which read to its tree
answer_made : (b : Bool) (o : Result Tree Notice) (n : Notice) → is_ok (cond b o (Err n)) ≡ true → (b ≡ true) × (o ≡ Ok (tree_or empty (cond b o (Err n))))
answer_made true (Ok t) n e = (refl, refl)
answer_made true (Err m) n e = absurd (false≢true e)
answer_made false o n e = absurd (false≢true e)

pub model_reads : (ps : List Part) → is_model ps ≡ true → (length ps ≤ 256) × (reading 0 ps [] ≡ Ok (tree ps))
model_reads ps e =
    let m = answer_made (leb 1 (length ps) && leb (length ps) 256) (reading 0 ps []) (at_set 4 (length ps)) e in
    (leb-true (length ps) 256 (and_parts (leb 1 (length ps)) _ m.0).1, m.1)
