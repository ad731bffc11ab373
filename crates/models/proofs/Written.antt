-- A table is taken exactly when it is the sheet of a well-formed tree. Assumes nothing.
use Rattle.std.proofs.Common.{◌≡◌, ℕ, ◌+◌, ◌≤◌, Bool, true, false, cond, ◌&&◌, leb, List, [], ◌∷◌, ◌++◌, map, length, is_ok, Some, None, Ok, Err, Option, Result, sym, refl, ap, ◌∙◌, subst, inl, inr, arith}
use Rattle.std.proofs.lemmas.List.{append_assoc, append-nil, map-append, length-append, length-map}
use Rattle.std.proofs.lemmas.Bool.{le-leb, leb-true, and_parts, false≢true}
use Rattle.std.proofs.lemmas.Bool.Decides.{nat_tests}
use Rattle.parts.specs.declared.part.Part.{Part}
use Rattle.parts.specs.declared.part.Form.{Form}
use Rattle.parts.specs.declared.part.Form.TheVariants.{Empty, Symbol, Choice, Sequence, Interleave, Count, Nonempty}
use Rattle.parts.specs.Parts.{form_of, are_fields_fit, bounded}
use Rattle.parts.specs.Refusals.{Notice, at_set}
use Rattle.models.specs.Sheets.{shape, join, step, reading, table_answer, is_model, tree_or, tree}
use Rattle.models.specs.Told.{AllFormed}
use Rattle.models.specs.Trees.{Tree, Bounds, Formed, Inhabited}
use Rattle.models.specs.Trees.Tree.{empty, symbol, choice, sequence, interleave, count, nonempty}
use Rattle.models.specs.Written.{subtrees, part, part_of, sheet, laid, SheetOf, TakenExactly}
use Rattle.models.proofs.Inhabited.{messages}
use Rattle.models.proofs.Admits.{stepped, step_made, went_on, only_made}
use Rattle.models.proofs.Unlike.{err-ok}

-- the part of a form
form_part : Form → Part
form_part Empty = part 0 0 0 0
form_part (Symbol s) = part 1 s 0 0
form_part Choice = part 2 0 0 0
form_part Sequence = part 3 0 0 0
form_part Interleave = part 4 0 0 0
form_part (Count repeats) = part 5 0 repeats.low repeats.high
form_part Nonempty = part 6 0 0 0

same_part : (p : Part) (k s l h : ℕ) → p.kind ≡ k → p.symbol ≡ s → p.low ≡ l → p.high ≡ h → p ≡ part k s l h
same_part p k s l h a b c d = λ i. record { kind = a i; symbol = b i; low = c i; high = d i }

-- fitting fields leave no choice but the form's
part_of_form : (p : Part) (f : Form) → form_of p ≡ Some f → are_fields_fit p ≡ true → p ≡ form_part f
unfolding form_part
part_of_form p Empty e h = same_part p 0 0 0 0 (grind (arith, nat_tests)) (grind (arith, nat_tests)) (grind (arith, nat_tests)) (grind (arith, nat_tests))
part_of_form p (Symbol s) e h = same_part p 1 s 0 0 (grind (arith, nat_tests)) (grind (arith, nat_tests)) (grind (arith, nat_tests)) (grind (arith, nat_tests))
part_of_form p Choice e h = same_part p 2 0 0 0 (grind (arith, nat_tests)) (grind (arith, nat_tests)) (grind (arith, nat_tests)) (grind (arith, nat_tests))
part_of_form p Sequence e h = same_part p 3 0 0 0 (grind (arith, nat_tests)) (grind (arith, nat_tests)) (grind (arith, nat_tests)) (grind (arith, nat_tests))
part_of_form p Interleave e h = same_part p 4 0 0 0 (grind (arith, nat_tests)) (grind (arith, nat_tests)) (grind (arith, nat_tests)) (grind (arith, nat_tests))
part_of_form p (Count repeats) e h = same_part p 5 0 repeats.low repeats.high (grind (arith, nat_tests)) (grind (arith, nat_tests)) (grind (arith, nat_tests)) (grind (arith, nat_tests))
part_of_form p Nonempty e h = same_part p 6 0 0 0 (grind (arith, nat_tests)) (grind (arith, nat_tests)) (grind (arith, nat_tests)) (grind (arith, nat_tests))

LaidIn : Option (List Tree) → List Part → Type 0
LaidIn None ps = Unit {0}
LaidIn (Some us) ps = laid us ≡ ps

join_laid : (f : Form) (ts : List Tree) → LaidIn (join (shape f) ts) (laid ts ++ (form_part f ∷ []))
unfolding form_part LaidIn
join_laid Empty ts = refl
join_laid (Symbol s) ts = refl
join_laid Choice [] = tt
join_laid Choice (r ∷ []) = tt
join_laid Choice (r ∷ l ∷ ts) = simp (map-append, append_assoc)
join_laid Sequence [] = tt
join_laid Sequence (r ∷ []) = tt
join_laid Sequence (r ∷ l ∷ ts) = simp (map-append, append_assoc)
join_laid Interleave [] = tt
join_laid Interleave (r ∷ []) = tt
join_laid Interleave (r ∷ l ∷ ts) = simp (map-append, append_assoc)
join_laid (Count repeats) [] = tt
join_laid (Count repeats) (t ∷ ts) = simp (map-append, append_assoc)
join_laid Nonempty [] = tt
join_laid Nonempty (t ∷ ts) = simp (map-append, append_assoc)

pub step_laid : (p : Part) (ts us : List Tree) → step p ts ≡ Ok us → laid us ≡ laid ts ++ (p ∷ [])
unfolding LaidIn
step_laid p ts us e =
    let (f, named, fit, made, taken) = stepped (form_of p) (are_fields_fit p) ts us e in
    let own = part_of_form p f named fit in
    rw own (subst (λ o. LaidIn o (laid ts ++ (form_part f ∷ []))) made (join_laid f ts))

-- what parts read to is the tree whose sheet they finish
reading_laid : (n : ℕ) (ps : List Part) (ts : List Tree) (t : Tree) → reading n ps ts ≡ Ok t → AllFormed ts → (laid ts ++ ps ≡ sheet t) × Formed t
reading_laid n [] ts t e formed =
    let one : ts ≡ t ∷ [] = only_made n ts t e in
    (rw (one, append-nil), (subst AllFormed one formed).0)
reading_laid n (p ∷ ps) ts t e formed =
    let (us, made) = went_on n (step p ts) (reading (n + 1) ps) t e in
    let (f, named, joined, after) = step_made p ts us made formed in
    let rest : reading (n + 1) ps us ≡ Ok t = rw made at e in
    let (all, tree_formed) = reading_laid (n + 1) ps us t rest after in
    (sym (append_assoc (laid ts) (p ∷ []) ps) ∙ ap (λ xs. xs ++ ps) (sym (step_laid p ts us made)) ∙ all, tree_formed)

-- and the sheet of a well-formed tree reads to it, whatever waits before and follows after
abbrev pub Reads : Tree → Type 0
Reads t = (n : ℕ) (rest : List Part) (ts : List Tree) → reading n (sheet t ++ rest) ts ≡ reading (n + length (sheet t)) rest (t ∷ ts)

one_part : (n : ℕ) (p : Part) (rest : List Part) (ts us : List Tree) → step p ts ≡ Ok us → reading n (p ∷ rest) ts ≡ reading (n + 1) rest us
one_part n p rest ts us e = rw e

pair_reads : (l r u : Tree) → subtrees u ≡ subtrees l ++ (subtrees r ++ (u ∷ [])) → ((ts : List Tree) → step (part_of u) (r ∷ l ∷ ts) ≡ Ok (u ∷ ts))
    → Reads l → Reads r → Reads u
pair_reads l r u e made f g n rest ts =
    let whole : sheet u ≡ sheet l ++ (sheet r ++ (part_of u ∷ [])) = ap (map part_of) e ∙ simp map-append in
    let order : sheet u ++ rest ≡ sheet l ++ (sheet r ++ (part_of u ∷ rest)) = rw whole (simp append_assoc) in
    let long : n + length (sheet l) + length (sheet r) + 1 ≡ n + length (sheet u) = rw whole (simp length-append (omega arith)) in
    ap (λ ps. reading n ps ts) order ∙ f n (sheet r ++ (part_of u ∷ rest)) ts ∙ g (n + length (sheet l)) (part_of u ∷ rest) (l ∷ ts)
    ∙ one_part (n + length (sheet l) + length (sheet r)) (part_of u) rest (r ∷ l ∷ ts) (u ∷ ts) (made ts)
    ∙ ap (λ k. reading k rest (u ∷ ts)) long

single_reads : (t u : Tree) → subtrees u ≡ subtrees t ++ (u ∷ []) → ((ts : List Tree) → step (part_of u) (t ∷ ts) ≡ Ok (u ∷ ts)) → Reads t → Reads u
single_reads t u e made f n rest ts =
    let whole : sheet u ≡ sheet t ++ (part_of u ∷ []) = ap (map part_of) e ∙ simp map-append in
    let order : sheet u ++ rest ≡ sheet t ++ (part_of u ∷ rest) = rw whole (simp append_assoc) in
    let long : n + length (sheet t) + 1 ≡ n + length (sheet u) = rw whole (simp length-append (omega arith)) in
    ap (λ ps. reading n ps ts) order ∙ f n (part_of u ∷ rest) ts
    ∙ one_part (n + length (sheet t)) (part_of u) rest (t ∷ ts) (u ∷ ts) (made ts)
    ∙ ap (λ k. reading k rest (u ∷ ts)) long

bounds_fit : (low high : ℕ) → Bounds low high → bounded low high ≡ true
bounds_fit low high (a, b, inl e) = grind (arith, nat_tests)
bounds_fit low high (a, b, inr (c, d)) = grind (arith, nat_tests)

pub sheet_reads : (t : Tree) → Formed t → Reads t
sheet_reads empty f = λ n rest ts. refl
sheet_reads (symbol s) f = λ n rest ts. one_part n (part 1 s 0 0) rest ts (symbol s ∷ ts) (let fit = le-leb s 63 f in rw fit)
sheet_reads (choice l r) f = pair_reads l r (choice l r) refl (λ ts. refl) (sheet_reads l f.0) (sheet_reads r f.1)
sheet_reads (sequence l r) f = pair_reads l r (sequence l r) refl (λ ts. refl) (sheet_reads l f.0) (sheet_reads r f.1)
sheet_reads (interleave l r) f = pair_reads l r (interleave l r) refl (λ ts. refl) (sheet_reads l f.0) (sheet_reads r f.1)
sheet_reads (count t low high) f =
    single_reads t (count t low high) refl (λ ts. let fit = bounds_fit low high f.1 in rw fit) (sheet_reads t f.0)
sheet_reads (nonempty t) f = single_reads t (nonempty t) refl (λ ts. let taken = f.1 in rw taken) (sheet_reads t f.0)

-- a tree has at least one part
some_part : (t : Tree) → 1 ≤ length (subtrees t)
some_part empty = omega arith
some_part (symbol s) = omega arith
some_part (choice l r) = simp length-append (omega arith)
some_part (sequence l r) = simp length-append (omega arith)
some_part (interleave l r) = simp length-append (omega arith)
some_part (count t low high) = simp length-append (omega arith)
some_part (nonempty t) = simp length-append (omega arith)

answer_ok : (b : Bool) (o : Result Tree Notice) (n : Notice) (t : Tree) → cond b o (Err n) ≡ Ok t → (b ≡ true) × (o ≡ Ok t)
answer_ok true o n t e = (refl, e)
answer_ok false o n t e = absurd (err-ok _ _ e)

pub taken_exactly : TakenExactly
taken_exactly ps t = (
  (λ e.
      let (within, read) = answer_ok (leb 1 (length ps) && leb (length ps) 256) (reading 0 ps []) (at_set 4 (length ps)) t e in
      let (all, formed) = reading_laid 0 ps [] t read tt in
      (all, formed, leb-true (length ps) 256 (and_parts (leb 1 (length ps)) _ within).1)),
  (λ (e, formed, few).
      let long : 1 ≤ length ps = rw (e, length-map) (some_part t) in
      let low = le-leb 1 (length ps) long in
      let high = le-leb (length ps) 256 few in
      let read : reading 0 ps [] ≡ Ok t = rw e (ap (λ qs. reading 0 qs []) (sym (append-nil (sheet t))) ∙ sheet_reads t formed 0 [] []) in
      rw (low, high, read)),
)

-- the parts of a model are the sheet of its tree
pub answered_ok : (o : Result Tree Notice) → is_ok o ≡ true → o ≡ Ok (tree_or empty o)
answered_ok (Ok t) e = refl
answered_ok (Err n) e = absurd (false≢true e)

pub model_sheet : (ps : List Part) → is_model ps ≡ true → SheetOf ps (tree ps)
model_sheet ps e = (taken_exactly ps (tree ps)).0 (answered_ok (table_answer ps) e)

-- and so it has messages
pub model_messages : (ps : List Part) → is_model ps ≡ true → Inhabited (tree ps)
model_messages ps e = messages (tree ps) (model_sheet ps e).1
