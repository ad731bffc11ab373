-- The walk through a sheet for the first conflict. Assumes nothing.
use Rattle.std.proofs.Common.{◌≡◌, ℕ, zero, suc, ◌+◌, ◌-◌, ◌^◌, ◌<◌, ◌≤◌, Bool, true, false, not, ◌||◌, eqb, leb, List, [], ◌∷◌, ◌++◌, length, get_or, take, Some, None, Ok, Err, Result, sym, refl, ap, ◌∙◌, subst, ⊎_elim, arith}
use lib.Bits.{bit_or, or_zero_r}
use Rattle.std.proofs.lemmas.List.{append_assoc, append-nil, get_or-map, length-map, take_more}
use Rattle.std.proofs.lemmas.Bool.{le-leb, eqb-true, eq-eqb, or_cases, or_left, or_right, cond-true, false≢true}
use Rattle.std.proofs.lemmas.Bool.Decides.{same_from_decides}
use Rattle.parts.specs.declared.part.Part.{Part}
use Rattle.models.specs.Conflicts.{is_symbol, is_the, met, clashes, clash_at, first_place, first_conflict_of}
use Rattle.parts.specs.declared.part.Form.{Form}
use Rattle.parts.specs.declared.part.UnknownKind.{UnknownKind}
use Rattle.parts.specs.Parts.{form_of, FormNamed}
use Rattle.std.specs.Result.{result_ok}
use Rattle.parts.specs.Sets.{In}
use Rattle.models.specs.Sheets.{is_model, tree}
use Rattle.models.specs.Told.{AllFormed}
use Rattle.models.specs.Trees.{Tree, Formed}
use Rattle.models.specs.Trees.Tree.{empty, symbol, choice, sequence, interleave, count, nonempty}
use Rattle.models.specs.Walk.{Clash, is_symbol_form, own_bits}
use Rattle.models.specs.Written.{subtrees, part_of, SheetOf}
use Rattle.parts.proofs.SymbolSets.{in_left, in_right, in_either, in_one, in_none, power_bit}
use Rattle.models.proofs.Written.{model_sheet}

-- the form, where the kind names one
pub named_form : (p : Part) (r : Result Form UnknownKind) → FormNamed p r → result_ok r ≡ form_of p
named_form p (Ok form) h = h
named_form p (Err unknown) h = h.0

-- a count stands right after what it takes
abbrev Counted : Bool → Tree → Type 0
Counted prior empty = Unit {0}
Counted prior (symbol s) = Unit {0}
Counted prior (choice l r) = Unit {0}
Counted prior (sequence l r) = Unit {0}
Counted prior (interleave l r) = Unit {0}
Counted prior (count t low high) = prior ≡ is_symbol t
Counted prior (nonempty t) = Unit {0}

abbrev Chain : Bool → List Tree → Type 0
Chain prior [] = Unit {0}
Chain prior (t ∷ ts) = Counted prior t × Chain (is_symbol t) ts

chain_pair : (l r u : Tree) → subtrees u ≡ subtrees l ++ (subtrees r ++ (u ∷ [])) → ((prior : Bool) → Counted prior u)
    → ((prior : Bool) (rest : List Tree) → Chain (is_symbol l) rest → Chain prior (subtrees l ++ rest))
    → ((prior : Bool) (rest : List Tree) → Chain (is_symbol r) rest → Chain prior (subtrees r ++ rest))
    → (prior : Bool) (rest : List Tree) → Chain (is_symbol u) rest → Chain prior (subtrees u ++ rest)
chain_pair l r u e free f g prior rest h =
    let order : subtrees u ++ rest ≡ subtrees l ++ (subtrees r ++ (u ∷ rest)) = rw e (simp append_assoc) in
    rw order (f prior (subtrees r ++ (u ∷ rest)) (g (is_symbol l) (u ∷ rest) (free (is_symbol r), h)))

chain_tree : (t : Tree) (prior : Bool) (rest : List Tree) → Chain (is_symbol t) rest → Chain prior (subtrees t ++ rest)
chain_tree empty = λ prior rest h. (tt, h)
chain_tree (symbol s) = λ prior rest h. (tt, h)
chain_tree (choice l r) = chain_pair l r (choice l r) refl (λ prior. tt) (chain_tree l) (chain_tree r)
chain_tree (sequence l r) = chain_pair l r (sequence l r) refl (λ prior. tt) (chain_tree l) (chain_tree r)
chain_tree (interleave l r) = chain_pair l r (interleave l r) refl (λ prior. tt) (chain_tree l) (chain_tree r)
chain_tree (count t low high) = λ prior rest h.
    rw (append_assoc (subtrees t) (count t low high ∷ []) rest) (chain_tree t prior (count t low high ∷ rest) (refl, h))
chain_tree (nonempty t) = λ prior rest h.
    rw (append_assoc (subtrees t) (nonempty t ∷ []) rest) (chain_tree t prior (nonempty t ∷ rest) (tt, h))

-- whether the part before place i is a symbol part
abbrev pub symbol_before : Bool → List Tree → ℕ → Bool
symbol_before prior ts zero = prior
symbol_before prior ts (suc i) = is_symbol (get_or ts i empty)

chain_at : (prior : Bool) (ts : List Tree) (i : ℕ) → i < length ts → Chain prior ts → Counted (symbol_before prior ts i) (get_or ts i empty)
chain_at prior [] i h c = absurd (omega arith)
chain_at prior (t ∷ ts) zero h c = c.0
chain_at prior (t ∷ ts) (suc zero) h c = chain_at (is_symbol t) ts zero (omega arith) c.1
chain_at prior (t ∷ ts) (suc (suc i)) h c = chain_at (is_symbol t) ts (suc i) (omega arith) c.1

-- each subtree is well formed
formed_append : (ts us : List Tree) → AllFormed ts → AllFormed us → AllFormed (ts ++ us)
formed_append [] us f g = g
formed_append (t ∷ ts) us f g = (f.0, formed_append ts us f.1 g)

formed_subtrees : (t : Tree) → Formed t → AllFormed (subtrees t)
formed_subtrees empty f = (f, tt)
formed_subtrees (symbol s) f = (f, tt)
formed_subtrees (choice l r) f = formed_append (subtrees l) _ (formed_subtrees l f.0) (formed_append (subtrees r) _ (formed_subtrees r f.1) (f, tt))
formed_subtrees (sequence l r) f = formed_append (subtrees l) _ (formed_subtrees l f.0) (formed_append (subtrees r) _ (formed_subtrees r f.1) (f, tt))
formed_subtrees (interleave l r) f = formed_append (subtrees l) _ (formed_subtrees l f.0) (formed_append (subtrees r) _ (formed_subtrees r f.1) (f, tt))
formed_subtrees (count t low high) f = formed_append (subtrees t) _ (formed_subtrees t f.0) (f, tt)
formed_subtrees (nonempty t) f = formed_append (subtrees t) _ (formed_subtrees t f.0) (f, tt)

formed_at : (ts : List Tree) (i : ℕ) → i < length ts → AllFormed ts → Formed (get_or ts i empty)
formed_at [] i h f = absurd (omega arith)
formed_at (t ∷ ts) zero h f = f.0
formed_at (t ∷ ts) (suc i) h f = formed_at ts i (omega arith) f.1

-- the set has exactly the symbols met among these parts
abbrev pub SeenIs : ℕ → List Tree → Type 0
SeenIs set ts = (s : ℕ) → s ≤ 63 → (In set s → met s ts ≡ true) × (met s ts ≡ true → In set s)

pub met-append : (s : ℕ) (ts us : List Tree) → met s (ts ++ us) ≡ (met s ts || met s us)
met-append s [] us = refl
met-append s (t ∷ ts) us = ap (λ b. is_the s t || b) (met-append s ts us) ∙ or_assoc (is_the s t) (met s ts) (met s us)
  where
    or_assoc : (a b c : Bool) → (a || (b || c)) ≡ ((a || b) || c)
    or_assoc true b c = refl
    or_assoc false b c = refl

-- a part that is no symbol part adds nothing to what is met
pub met_single : (ts : List Tree) (u : Tree) (s : ℕ) → is_the s u ≡ false → met s (ts ++ (u ∷ [])) ≡ met s ts
met_single [] u s n = rw n
met_single (t ∷ ts) u s n = ap (λ b. is_the s t || b) (met_single ts u s n)

other_more : (set : ℕ) (ts : List Tree) (u : Tree) → ((s : ℕ) → is_the s u ≡ false) → SeenIs set ts → SeenIs (bit_or set 0) (ts ++ (u ∷ []))
other_more set ts u none f s low = rw (or_zero_r set, met_single ts u s (none s)) (f s low)

symbol_more : (set : ℕ) (ts : List Tree) (x : ℕ) → x ≤ 63 → SeenIs set ts → SeenIs (bit_or set (2 ^ x)) (ts ++ (symbol x ∷ []))
symbol_more set ts x small f s low = (
  (λ h. rw (met-append s ts (symbol x ∷ [])) (⊎_elim
      (λ z. or_left (met s ts) _ ((f s low).0 z))
      (λ z. or_right (met s ts) _ (or_left (eqb x s) false (eq-eqb x s (power_bit x s z.1))))
      (in_either set (2 ^ x) s h))),
  (λ h. ⊎_elim
      (λ z. in_left set (2 ^ x) s ((f s low).1 z))
      (λ z. in_right set (2 ^ x) s (subst (In (2 ^ x)) (own z) (in_one x small)))
      (or_cases (met s ts) _ (rw (met-append s ts (symbol x ∷ [])) at h))),
)
  where
    own : (eqb x s || false) ≡ true → x ≡ s
    own e = ⊎_elim (λ z. eqb-true x s z) (λ z. absurd (false≢true z)) (or_cases (eqb x s) false e)

seen_more : (set : ℕ) (ts : List Tree) (u : Tree) → Formed u → SeenIs set ts → SeenIs (bit_or set (own_bits (form_of (part_of u)))) (ts ++ (u ∷ []))
seen_more set ts empty f = other_more set ts empty (λ s. refl)
seen_more set ts (symbol x) f = λ g. rw (cond-true (leb x 63) (2 ^ x) 0 (le-leb x 63 f)) (symbol_more set ts x f g)
seen_more set ts (choice l r) f = other_more set ts (choice l r) (λ s. refl)
seen_more set ts (sequence l r) f = other_more set ts (sequence l r) (λ s. refl)
seen_more set ts (interleave l r) f = other_more set ts (interleave l r) (λ s. refl)
seen_more set ts (count t low high) f = other_more set ts (count t low high) (λ s. refl)
seen_more set ts (nonempty t) f = other_more set ts (nonempty t) (λ s. refl)

-- what is asked of one part is whether it clashes
clash_is : (set : ℕ) (after r : Bool) (ts : List Tree) (u : Tree) → Formed u → Counted after u → SeenIs set ts
    → Clash (form_of (part_of u)) set after r → r ≡ clashes ts u
clash_is set after r ts empty f c g h = h
clash_is set after r ts (symbol s) f c g h = same_from_decides r (met s ts) h ((λ e. (g s f).1 e), (λ e. (g s f).0 e))
clash_is set after r ts (choice a b) f c g h = h
clash_is set after r ts (sequence a b) f c g h = h
clash_is set after r ts (interleave a b) f c g h = h
clash_is set after r ts (count t low high) f c g h = h ∙ ap not c
clash_is set after r ts (nonempty t) f c g h = h

-- the test of a form for a symbol part
symbol_kind : (u : Tree) → is_symbol_form (form_of (part_of u)) ≡ is_symbol u
symbol_kind empty = refl
symbol_kind (symbol s) = refl
symbol_kind (choice l r) = refl
symbol_kind (sequence l r) = refl
symbol_kind (interleave l r) = refl
symbol_kind (count t low high) = refl
symbol_kind (nonempty t) = refl

first_here : (n i : ℕ) (test : ℕ → Bool) → i < n → test i ≡ true → first_place (n - i) i test ≡ Some i
first_here n i test h e = let more : n - i ≡ suc (n - (i + 1)) = omega arith in rw (more, e)

first_more : (n i : ℕ) (test : ℕ → Bool) → i < n → test i ≡ false → first_place (n - i) i test ≡ first_place (n - (i + 1)) (i + 1) test
first_more n i test h e = let more : n - i ≡ suc (n - (i + 1)) = omega arith in rw (more, e)

-- after i parts without a conflict
pub record Walked (ps : List Part) (i set : ℕ) (after : Bool) : Type 0 where
  pub rest : first_place (length ps - i) i (clash_at (subtrees (tree ps))) ≡ first_conflict_of (tree ps)
  pub seen : SeenIs set (take i (subtrees (tree ps)))
  pub before : after ≡ symbol_before false (subtrees (tree ps)) i

module _ (ps : List Part) (checked : is_model ps ≡ true) where
  own : SheetOf ps (tree ps)
  own = model_sheet ps checked

  abbrev trees : List Tree
  trees = subtrees (tree ps)

  long : length ps ≡ length trees
  long = ap length own.0 ∙ length-map trees part_of

  part_at : (i : ℕ) (d : Part) → i < length ps → get_or ps i d ≡ part_of (get_or trees i empty)
  part_at i d h = ap (λ qs. get_or qs i d) own.0 ∙ get_or-map part_of trees i empty d (let l = long in omega arith)

  pub walked_none : Walked ps 0 0 false
  walked_none = record {
    rest = let none : length ps - 0 ≡ length trees = let l = long in omega arith in rw none;
    seen = λ s low. ((λ h. absurd (in_none s h)), (λ h. absurd (false≢true h)));
    before = refl;
  }

  module _ (i set : ℕ) (after r : Bool) (d : Part) (w : Walked ps i set after) (within : i < length ps) (asked : Clash (form_of (get_or ps i d)) set after r) where
    tree_formed : Formed (get_or trees i empty)
    tree_formed = formed_at trees i (let l = long in omega arith) (formed_subtrees (tree ps) own.1)

    counted : Counted after (get_or trees i empty)
    counted =
        let chain : Chain false trees = rw append-nil at (chain_tree (tree ps) false [] tt) in
        rw w.before (chain_at false trees i (let l = long in omega arith) chain)

    clash_here : r ≡ clash_at trees i
    clash_here = clash_is set after r (take i trees) (get_or trees i empty) tree_formed counted w.seen (rw (part_at i d within) at asked)

    pub walked_found : r ≡ true → Some i ≡ first_conflict_of (tree ps)
    walked_found e = sym (first_here (length ps) i (clash_at trees) within (sym clash_here ∙ e)) ∙ w.rest

    pub walked_more : r ≡ false → Walked ps (i + 1) (bit_or set (own_bits (form_of (get_or ps i d)))) (is_symbol_form (form_of (get_or ps i d)))
    walked_more e = record {
      rest = sym (first_more (length ps) i (clash_at trees) within (sym clash_here ∙ e)) ∙ w.rest;
      seen =
          let more = seen_more set (take i trees) (get_or trees i empty) tree_formed w.seen in
          rw (part_at i d within, take_more trees i empty (let l = long in omega arith)) more;
      before = let next : i + 1 ≡ suc i = omega arith in rw (part_at i d within, next) (symbol_kind (get_or trees i empty));
    }

  pub walked_all : (i set : ℕ) (after : Bool) → length ps ≤ i → Walked ps i set after → None ≡ first_conflict_of (tree ps)
  walked_all i set after end w = let none : length ps - i ≡ 0 = omega arith in rw none at w.rest
