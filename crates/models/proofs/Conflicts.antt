-- A model has no first conflict exactly when it is conflict-free. Assumes nothing.
use Rattle.std.proofs.Common.{◌≡◌, ℕ, zero, suc, ◌+◌, ◌<◌, ◌≤◌, Bool, true, false, cond, ◌||◌, eqb, ◌⊎◌, List, [], ◌∷◌, ◌++◌, length, Some, None, Option, sym, refl, ap, ◌∙◌, subst, inl, inr, ⊎_elim, arith}
use Rattle.std.proofs.lemmas.List.{append_assoc, append-nil, get_or_at, take_at, length_push}
use Rattle.std.proofs.lemmas.Bool.{cases_eq, eqb-true, eq-eqb, cases_Bool, both_ways, or_cases, or_parts, or_from, or_left, or_right, not-false, not_from_true, false≢true}
use Rattle.models.specs.Conflicts.{Apart, is_symbol, ConflictFree, is_the, met, clashes, clash_at, first_place, FirstExactly, NoneExactly}
use Rattle.models.specs.Trees.{Tree, Stands}
use Rattle.models.specs.Trees.Tree.{empty, symbol, choice, sequence, interleave, count, nonempty}
use Rattle.models.specs.Written.{subtrees}
use Rattle.models.proofs.Walks.{met-append, met_single}
use Rattle.models.proofs.Unlike.{some-none}

-- none of the parts clashes with those before it
abbrev Clear : List Tree → List Tree → Type 0
Clear before [] = Unit {0}
Clear before (u ∷ us) = (clashes before u ≡ false) × Clear (before ++ (u ∷ [])) us

not_here : (b : Bool) (k : ℕ) (o : Option ℕ) → cond b (Some k) o ≡ None → (b ≡ false) × (o ≡ None)
not_here true k o e = absurd (some-none k e)
not_here false k o e = (refl, e)

-- the first place from the one after `before` on
clear_first : (before ts : List Tree) (k : ℕ) → length before ≡ k
    → (first_place (length ts) k (clash_at (before ++ ts)) ≡ None → Clear before ts) × (Clear before ts → first_place (length ts) k (clash_at (before ++ ts)) ≡ None)
clear_first before [] k e = ((λ h. tt), (λ h. refl))
clear_first before (u ∷ us) k e =
    let here : clash_at (before ++ (u ∷ us)) k ≡ clashes before u = rw (take_at before (u ∷ us) k e, get_or_at before u us empty k e) in
    let more : length (before ++ (u ∷ [])) ≡ k + 1 = length_push before u ∙ ap (λ n. n + 1) e in
    let order : (before ++ (u ∷ [])) ++ us ≡ before ++ (u ∷ us) = append_assoc before (u ∷ []) us in
    let rest = rw order at (clear_first (before ++ (u ∷ [])) us (k + 1) more) in (
      (λ h. let n = not_here (clash_at (before ++ (u ∷ us)) k) k _ h in (sym here ∙ n.0, rest.0 n.1)),
      (λ h. rw (here, h.0) (rest.1 h.1)),
    )

-- a symbol stands in a tree exactly when it is met among its parts
met_pair : (l r u : Tree) (s : ℕ) → subtrees u ≡ subtrees l ++ (subtrees r ++ (u ∷ [])) → is_the s u ≡ false → met s (subtrees u) ≡ (met s (subtrees l) || met s (subtrees r))
met_pair l r u s e none =
    ap (met s) e ∙ met-append s (subtrees l) _ ∙ ap (λ b. met s (subtrees l) || b) (met_single (subtrees r) u s none)

abbrev MetIs : Tree → ℕ → Type 0
MetIs t s = (met s (subtrees t) ≡ true → Stands t s) × (Stands t s → met s (subtrees t) ≡ true)

pair_met : (l r u : Tree) (s : ℕ) → subtrees u ≡ subtrees l ++ (subtrees r ++ (u ∷ [])) → is_the s u ≡ false → MetIs l s → MetIs r s
    → (met s (subtrees u) ≡ true → Stands l s ⊎ Stands r s) × (Stands l s ⊎ Stands r s → met s (subtrees u) ≡ true)
pair_met l r u s e none f g =
    let both = met_pair l r u s e none in (
      (λ h. ⊎_elim (λ z. inl (f.0 z)) (λ z. inr (g.0 z)) (or_cases (met s (subtrees l)) _ (sym both ∙ h))),
      (λ h. both ∙ ⊎_elim (λ z. or_left _ _ (f.1 z)) (λ z. or_right (met s (subtrees l)) _ (g.1 z)) h),
    )

pub met_is : (t : Tree) (s : ℕ) → MetIs t s
met_is empty s = ((λ h. absurd (false≢true h)), (λ h. absurd h))
met_is (symbol x) s = (
  (λ h. ⊎_elim (λ z. eqb-true x s z) (λ z. absurd (false≢true z)) (or_cases (eqb x s) false h)),
  (λ h. or_left (eqb x s) false (eq-eqb x s h)),
)
met_is (choice l r) s = pair_met l r (choice l r) s refl refl (met_is l s) (met_is r s)
met_is (sequence l r) s = pair_met l r (sequence l r) s refl refl (met_is l s) (met_is r s)
met_is (interleave l r) s = pair_met l r (interleave l r) s refl refl (met_is l s) (met_is r s)
met_is (count t low high) s = rw (met_single (subtrees t) (count t low high) s refl) (met_is t s)
met_is (nonempty t) s = rw (met_single (subtrees t) (nonempty t) s refl) (met_is t s)

-- no symbol of the tree is met before it
abbrev Fresh : List Tree → Tree → Type 0
Fresh before t = (s : ℕ) → Stands t s → met s before ≡ false

abbrev ClearIs : Tree → Type 0
ClearIs t =
    (before rest : List Tree)
    → (Clear before (subtrees t ++ rest) → (ConflictFree t × Fresh before t) × Clear (before ++ subtrees t) rest)
    × ((ConflictFree t × Fresh before t) × Clear (before ++ subtrees t) rest → Clear before (subtrees t ++ rest))

module _ (l r u : Tree) (e : subtrees u ≡ subtrees l ++ (subtrees r ++ (u ∷ []))) (quiet : (before : List Tree) → clashes before u ≡ false) (f : ClearIs l) (g : ClearIs r) (before rest : List Tree) where
  split_order : subtrees u ++ rest ≡ subtrees l ++ (subtrees r ++ (u ∷ rest))
  split_order = rw e (simp append_assoc)

  before_order : ((before ++ subtrees l) ++ subtrees r) ++ (u ∷ []) ≡ before ++ subtrees u
  before_order = rw e (simp append_assoc)

  pair_clear : Clear before (subtrees u ++ rest)
      → ((ConflictFree l × ConflictFree r × Apart l r) × ((s : ℕ) → Stands l s ⊎ Stands r s → met s before ≡ false)) × Clear (before ++ subtrees u) rest
  pair_clear h =
      let a = (f before (subtrees r ++ (u ∷ rest))).0 (rw split_order at h) in
      let b = (g (before ++ subtrees l) (u ∷ rest)).0 a.1 in
      let parts : (s : ℕ) → Stands r s → (met s before ≡ false) × (met s (subtrees l) ≡ false) =
      λ s z. or_parts (met s before) _ (sym (met-append s before (subtrees l)) ∙ b.0.1 s z) in (
        (
          (a.0.0, b.0.0, λ s x y. both_ways (met s (subtrees l)) (parts s y).1 ((met_is l s).1 x)),
          (λ s z. ⊎_elim (λ x. a.0.1 s x) (λ y. (parts s y).0) z),
        ),
        rw before_order at b.1.1,
      )

  clear_pair : ((ConflictFree l × ConflictFree r × Apart l r) × ((s : ℕ) → Stands l s ⊎ Stands r s → met s before ≡ false)) × Clear (before ++ subtrees u) rest
      → Clear before (subtrees u ++ rest)
  clear_pair (((p, q, apart), fresh), h) =
      let own : (s : ℕ) → Stands r s → met s (before ++ subtrees l) ≡ false =
      λ s y. met-append s before (subtrees l) ∙ or_from (met s before) _ (fresh s (inr y))
      (⊎_elim (λ z. absurd (apart s ((met_is l s).0 z) y)) (λ z. z) (cases_Bool (met s (subtrees l)))) in
      let b = (g (before ++ subtrees l) (u ∷ rest)).1 ((q, own), (quiet ((before ++ subtrees l) ++ subtrees r), rw (← before_order) at h)) in
      rw split_order ((f before (subtrees r ++ (u ∷ rest))).1 ((p, λ s x. fresh s (inl x)), b))

pub symbol_free : (t : Tree) → is_symbol t ≡ true → ConflictFree t
symbol_free empty e = tt
symbol_free (symbol s) e = tt
symbol_free (choice l r) e = absurd (false≢true e)
symbol_free (sequence l r) e = absurd (false≢true e)
symbol_free (interleave l r) e = absurd (false≢true e)
symbol_free (count t low high) e = absurd (false≢true e)
symbol_free (nonempty t) e = absurd (false≢true e)

clear_is : (t : Tree) → ClearIs t
clear_is empty = λ before rest. ((λ h. ((tt, λ s z. absurd z), h.1)), (λ h. (refl, h.1)))
clear_is (symbol x) = λ before rest. (
  (λ h. ((tt, λ s z. subst (λ y. met y before ≡ false) z h.0), h.1)),
  (λ h. (h.0.1 x refl, h.1)),
)
clear_is (choice l r) = λ before rest. (
  pair_clear l r (choice l r) refl (λ b. refl) (clear_is l) (clear_is r) before rest,
  clear_pair l r (choice l r) refl (λ b. refl) (clear_is l) (clear_is r) before rest,
)
clear_is (sequence l r) = λ before rest. (
  pair_clear l r (sequence l r) refl (λ b. refl) (clear_is l) (clear_is r) before rest,
  clear_pair l r (sequence l r) refl (λ b. refl) (clear_is l) (clear_is r) before rest,
)
clear_is (interleave l r) = λ before rest. (
  pair_clear l r (interleave l r) refl (λ b. refl) (clear_is l) (clear_is r) before rest,
  clear_pair l r (interleave l r) refl (λ b. refl) (clear_is l) (clear_is r) before rest,
)
clear_is (count t low high) = λ before rest.
    let u : Tree = count t low high in
    let order : subtrees u ++ rest ≡ subtrees t ++ (u ∷ rest) = append_assoc (subtrees t) (u ∷ []) rest in
    let later : (before ++ subtrees t) ++ (u ∷ []) ≡ before ++ subtrees u = append_assoc before (subtrees t) (u ∷ []) in
    let i = clear_is t before (u ∷ rest) in (
      (λ h.
          let a = i.0 (rw order at h) in
          ((not-false (is_symbol t) a.1.0, a.0.1), rw later at a.1.1)),
      (λ h. rw order (i.1 ((symbol_free t h.0.0, h.0.1), (not_from_true (is_symbol t) h.0.0, rw (← later) at h.1)))),
    )
clear_is (nonempty t) = λ before rest.
    let u : Tree = nonempty t in
    let order : subtrees u ++ rest ≡ subtrees t ++ (u ∷ rest) = append_assoc (subtrees t) (u ∷ []) rest in
    let later : (before ++ subtrees t) ++ (u ∷ []) ≡ before ++ subtrees u = append_assoc before (subtrees t) (u ∷ []) in
    let i = clear_is t before (u ∷ rest) in (
      (λ h. let a = i.0 (rw order at h) in (a.0, rw later at a.1.1)),
      (λ h. rw order (i.1 (h.0, (refl, rw (← later) at h.1)))),
    )

pub none_exactly : NoneExactly
none_exactly t =
    let first = clear_first [] (subtrees t) 0 refl in
    let whole = rw append-nil at (clear_is t [] []) in (
      (λ h. (whole.0 (first.0 h)).0.0),
      (λ h. first.1 (whole.1 ((h, λ s z. refl), tt))),
    )

-- the first place from i on at which a test holds
first_is : (n i k : ℕ) (test : ℕ → Bool) → first_place n i test ≡ Some k
    → (i ≤ k) × (k < i + n) × (test k ≡ true) × ((j : ℕ) → i ≤ j → j < k → test j ≡ false)
first_is zero i k test e = absurd (some-none k (sym e))
first_is (suc n) i k test e = go (first_is n (i + 1) k test) (test i) refl (λ b h. rw h at e)
  where
    go : (first_place n (i + 1) test ≡ Some k → (i + 1 ≤ k) × (k < i + 1 + n) × (test k ≡ true) × ((j : ℕ) → i + 1 ≤ j → j < k → test j ≡ false))
        → (b : Bool) → test i ≡ b → ((c : Bool) → test i ≡ c → cond c (Some i) (first_place n (i + 1) test) ≡ Some k)
        → (i ≤ k) × (k < i + suc n) × (test k ≡ true) × ((j : ℕ) → i ≤ j → j < k → test j ≡ false)
    go next true h found =
        let here : i ≡ k = let f = found true h in cc in
        (omega arith, omega arith, subst (λ x. test x ≡ true) here h, (λ j low high. absurd (omega arith)))
    go next false h found =
        let (low, high, holds, before) = next (found false h) in (
          omega arith,
          omega arith,
          holds,
          (λ j a b. ⊎_elim (λ z. subst (λ x. test x ≡ false) z h) (λ z. before j (omega arith) b) (cases_eq i j)),
        )

is_first : (n i k : ℕ) (test : ℕ → Bool) → i ≤ k → k < i + n → test k ≡ true → ((j : ℕ) → i ≤ j → j < k → test j ≡ false) → first_place n i test ≡ Some k
is_first zero i k test low high holds before = absurd (omega arith)
is_first (suc n) i k test low high holds before = go (is_first n (i + 1) k test) (cases_eq i k)
  where
    go : (i + 1 ≤ k → k < i + 1 + n → test k ≡ true → ((j : ℕ) → i + 1 ≤ j → j < k → test j ≡ false) → first_place n (i + 1) test ≡ Some k)
        → (i ≡ k) ⊎ (i ≡ k → ⊥) → cond (test i) (Some i) (first_place n (i + 1) test) ≡ Some k
    go next (inl e) = let here : test i ≡ true = subst (λ x. test x ≡ true) (sym e) holds in rw here (ap Some e)
    go next (inr ne) =
        let here : test i ≡ false = before i (omega arith) (omega arith) in
        rw here (next (omega arith) (omega arith) holds (λ j a b. before j (omega arith) b))

pub first_exactly : FirstExactly
first_exactly t k =
    let n = length (subtrees t) in
    let test = clash_at (subtrees t) in (
      (λ e.
          let (low, high, holds, before) = first_is n 0 k test e in
          ((omega arith, holds), (λ j less (within, clash). both_ways (test j) (before j (omega arith) less) clash))),
      (λ ((within, holds), none).
          is_first n 0 k test (omega arith) (omega arith) holds
          (λ j low less. ⊎_elim (λ z. absurd (none j less (omega arith, z))) (λ z. z) (cases_Bool (test j)))),
    )
