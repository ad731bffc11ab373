-- A message of the symbols of a conflict-free tree fits exactly when it obeys. Assumes nothing.
use Rattle.std.proofs.Common.{◌≡◌, ℕ, zero, suc, ◌≤◌, true, false, ◌&&◌, ◌⊎◌, [], ◌∷◌, ◌++◌, sym, refl, ap, ◌∙◌, subst, inl, inr, ⊎_elim, arith}
use Rattle.std.proofs.lemmas.Bool.{cases_Bool, both_ways, and_left, and_right, false≢true}
use Rattle.models.specs.Conflicts.{Apart, is_symbol, ConflictFree}
use Rattle.models.specs.Messages.{Message, Occurs, HasOneOf, occurrences, After, Shuffle, Joined}
use Rattle.models.specs.Messages.Shuffle.{done, left, right}
use Rattle.models.specs.Trees.{Tree, Between, Stands, Fits, Formed}
use Rattle.models.specs.Trees.Tree.{empty, symbol, choice, sequence, interleave, count, nonempty}
use Rattle.models.proofs.Counted.{counted_same}
use Rattle.models.proofs.Occurrences.{Occurs-Shuffle, Shuffle-append, Shuffle-append_back, shuffle_occurs_left}
use Rattle.models.proofs.Ordered.{After-append}
use Rattle.models.proofs.Sides.{Sides, sequence_sides, interleave_sides, shuffle_nonempty}
use Rattle.models.proofs.Unlike.{cons-nil}
use Rattle.summaries.proofs.Everywhere.{shuffle_has_right}
use Rattle.set.specs.Holding.{symbols_in, takes_empty}
use Rattle.set.proofs.Agreeing.{agree_back, agree_piece, shuffle_swap, after_first, after_second, parted}
use Rattle.set.proofs.Holding.{holds_stands, stands_holds, symbols_stand, empty_taken, Within, fits_within}
use Rattle.set.proofs.Obeying.{Obeys, Bring, BothBring, SidesOrdered, Pair, choice_pair, sequence_pair, interleave_pair, obeys_agree, obeys_nothing, obeys_parts, obeys_together}

-- the message is nonempty where it has to be
abbrev pub Filled : Tree → Message → Type 0
Filled t m = takes_empty t ≡ false → m ≡ [] → ⊥

pub fits_filled : (t : Tree) (m : Message) → Formed t → Fits t m → Filled t m
fits_filled t m f h e none = both_ways (takes_empty t) e ((empty_taken t f).1 (subst (Fits t) none h))

pub has_some : (t : Tree) (m : Message) → Formed t → Within t m → (m ≡ [] → ⊥) → HasOneOf (symbols_in t) m
has_some t [] f w ne = absurd (ne refl)
has_some t (x ∷ m) f w ne = (x, (symbols_stand t f x).1 (w x (inl refl)), inl refl)

abbrev pub ObeysIf : Tree → Type 0
ObeysIf t = (m : Message) → Fits t m → Obeys t m

abbrev pub FitsIf : Tree → Type 0
FitsIf t = (m : Message) → Within t m → Filled t m → Obeys t m → Fits t m

-- where the whole is nonempty, a piece is, or the other brings a symbol of it
piece_filled : (l r : Tree) (a b m : Message) → Formed l → Formed r → Apart l r → Shuffle a b m → Within r b → Bring r l m → (takes_empty l ≡ false → m ≡ [] → ⊥) → Filled l a
piece_filled l r a b m f g apart s v bring filled e none =
    elim (shuffle_nonempty s (filled e)) [
      | inl ne ↦ ne none
      | inr ne ↦
          let (x, i, h) = bring e (shuffle_has_right (symbols_in r) s (has_some r b g v ne)) in
          ⊎_elim (λ z. subst (Occurs x) none z) (λ z. apart x ((symbols_stand l f x).0 i) (v x z)) (Occurs-Shuffle x s h)
    ]

-- a sequence or an interleave: it orders the symbols of its sides as far as it puts their messages together in order
record Row (put : Message → Message → Message → Type 0) (form : Tree → Tree → Tree) : Type 0 where
  sides : Sides put form
  pair : (l r : Tree) → Pair (BothBring l r) l r (form l r)
  takes : (l r : Tree) → takes_empty (form l r) ≡ (takes_empty l && takes_empty r)
  ordered : (l r : Tree) (a b m : Message) → Apart l r → put a b m → Within l a → Within r b → SidesOrdered l r (form l r) m
  joins : (l r : Tree) (a b m : Message) → Shuffle a b m → Within l a → Within r b → SidesOrdered l r (form l r) m → put a b m

module _ {put : Message → Message → Message → Type 0} {form : Tree → Tree → Tree} (row : Row put form) (l r : Tree) (f : Formed l) (g : Formed r) (apart : Apart l r) where
  row_obeys : ObeysIf l → ObeysIf r → ObeysIf (form l r)
  row_obeys p q m h =
      let (a, b, s, x, y) = row.sides.apart l r m h in
      let mixed = row.sides.mixes.shuffled a b m s in
      let u = fits_within l a x in
      let v = fits_within r b y in
      let right_has = λ (e : takes_empty r ≡ false). shuffle_has_right (symbols_in r) mixed (has_some r b g v (fits_filled r b g y e)) in
      let left_has = λ (e : takes_empty l ≡ false). shuffle_has_right (symbols_in l) (shuffle_swap mixed) (has_some l a f u (fits_filled l a f x e)) in
      obeys_together (BothBring l r) l r (form l r) (row.pair l r) apart f g a b m mixed u v (p a x) (q b y)
      ((λ e z. right_has e), (λ e z. left_has e)) (row.ordered l r a b m apart s u v)

  row_fits : FitsIf l → FitsIf r → FitsIf (form l r)
  row_fits p q m w filled o =
      let pair = row.pair l r in
      let (a, b, s, u, v) = parted l r m (λ x h. pair.stands x (w x h)) in
      let (x, y, (bring, back), ordered) = obeys_parts (BothBring l r) l r (form l r) pair apart m o in
      let swapped = shuffle_swap s in
      let apart_back : Apart r l = λ x p q. apart x q p in
      let left_filled = piece_filled l r a b m f g apart s v back (λ e. filled (row.takes l r ∙ and_left (takes_empty l) (takes_empty r) e)) in
      let right_filled = piece_filled r l b a m g f apart_back swapped u bring (λ e. filled (row.takes l r ∙ and_right (takes_empty l) (takes_empty r) e)) in
      let left_obeys = obeys_agree l m a f (agree_back l a m (agree_piece l r a b m apart s v)) x in
      let right_obeys = obeys_agree r m b g (agree_back r b m (agree_piece r l b a m apart_back swapped u)) y in
      row.sides.made l r m (a, b, row.joins l r a b m s u v ordered, p a u left_filled left_obeys, q b v right_filled right_obeys)

interleave_row : Row Shuffle interleave
interleave_row = record {
  sides = interleave_sides;
  pair = interleave_pair;
  takes = λ l r. refl;
  ordered = λ l r a b m apart s u v x y c e h. false≢true e;
  joins = λ l r a b m s u v o. s;
}

-- one piece stands before the other where no symbol of it comes after one of the other
in_row : {a b m : Message} → Shuffle a b m → ((x y : ℕ) → Occurs x a → Occurs y b → After x y m → ⊥) → a ++ b ≡ m
in_row done h = refl
in_row (left x s) h = ap (λ n. x ∷ n) (in_row s (λ y z p q o. h y z (inr p) q (inr o)))
in_row (right {a} {b} {m} x s) h =
    behind a (in_row s (λ y z p q o. h y z p (inr q) (inr o))) (λ y p. h y x p (inl refl) (inl (refl, shuffle_occurs_left y s p)))
  where
    behind : (a : Message) → a ++ b ≡ m → ((y : ℕ) → Occurs y a → ⊥) → a ++ (x ∷ b) ≡ x ∷ m
    behind [] e none = ap (λ n. x ∷ n) e
    behind (y ∷ a) e none = absurd (none y (inl refl))

sequence_row : Row (λ a b m. a ++ b ≡ m) sequence
sequence_row = record {
  sides = sequence_sides;
  pair = sequence_pair;
  takes = λ l r. refl;
  ordered = λ l r a b m apart s u v x y c e h.
      let p = (holds_stands l x).0 e in
      let q = ⊎_elim (λ z. z.1) (λ z. absurd (apart x p z.0)) c in
      elim (After-append x y a b (subst (After x y) (sym s) h)) [
        | inl (inl z) ↦ apart y (u y (after_second x y a z)) q
        | inl (inr z) ↦ apart x p (v x (after_first x y b z))
        | inr (z, z') ↦ apart x p (v x z')
      ];
  joins = λ l r a b m s u v o. in_row s (λ x y p q h. o x y (inl (u x p, v y q)) (stands_holds l x (u x p)) h);
}

module _ (l r : Tree) (f : Formed l) (g : Formed r) (apart : Apart l r) where
  choice_obeys : ObeysIf l → ObeysIf r → ObeysIf (choice l r)
  choice_obeys p q m (inl h) =
      let u = fits_within l m h in
      obeys_together (λ m. Unit {0}) l r (choice l r) (choice_pair l r) apart f g m [] m (Shuffle-append_back m []) u (λ s z. absurd z) (p m h) (obeys_nothing r g) tt
      (λ x y c e z. ⊎_elim (λ c. apart y (u y (after_second x y m z)) c.1) (λ c. apart x (u x (after_first x y m z)) c.0) c)
  choice_obeys p q m (inr h) =
      let v = fits_within r m h in
      obeys_together (λ m. Unit {0}) l r (choice l r) (choice_pair l r) apart f g [] m m (Shuffle-append [] m) (λ s z. absurd z) v (obeys_nothing l f) (q m h) tt
      (λ x y c e z. ⊎_elim (λ c. apart x c.0 (v x (after_first x y m z))) (λ c. apart y c.1 (v y (after_second x y m z))) c)

  choice_fits : FitsIf l → FitsIf r → FitsIf (choice l r)
  choice_fits p q [] w filled o =
      elim (cases_Bool (takes_empty (choice l r))) [
        | inl e ↦ (empty_taken (choice l r) (f, g)).0 e
        | inr e ↦ absurd (filled e refl)
      ]
  choice_fits p q (x ∷ m) w filled o =
      let (a, b, own, ordered) = obeys_parts (λ m. Unit {0}) l r (choice l r) (choice_pair l r) apart (x ∷ m) o in
      elim (w x (inl refl)) [
        | inl u ↦ inl (p (x ∷ m) (stays (Stands l) (Stands r) x m u w (λ y v h. ordered y x (inr (v, u)) refl h)) (λ e. cons-nil x m) a)
        | inr v ↦ inr (q (x ∷ m) (stays (Stands r) (Stands l) x m v (λ y h. ⊎_elim inr inl (w y h)) (λ y u h. ordered y x (inl (u, v)) refl h)) (λ e. cons-nil x m) b)
      ]
    where
      -- where no Q comes after the first symbol, a P, all are P
      stays : (P Q : ℕ → Type 0) (x : ℕ) (m : Message) → P x → ((s : ℕ) → Occurs s (x ∷ m) → P s ⊎ Q s) → ((s : ℕ) → Q s → After s x (x ∷ m) → ⊥) → (s : ℕ) → Occurs s (x ∷ m) → P s
      stays P Q x m p w none s (inl e) = subst P e p
      stays P Q x m p w none s (inr h) = ⊎_elim (λ z. z) (λ z. absurd (none s z (inl (refl, h)))) (w s (inr h))

-- a row of one symbol has it as often as it is long
counted_row : (x j : ℕ) (m : Message) → Joined (λ n. n ≡ x ∷ []) j m → occurrences x m ≡ j
counted_row x zero m e = ap (occurrences x) e
counted_row x (suc j) m (a, b, e, first, rest) =
    let whole : x ∷ b ≡ m = ap (λ n. n ++ b) (sym first) ∙ e in
    ap (occurrences x) (sym whole) ∙ (counted_same x x b refl ∙ ap suc (counted_row x j b rest))

row_counted : (x : ℕ) (m : Message) → ((s : ℕ) → Occurs s m → x ≡ s) → Joined (λ n. n ≡ x ∷ []) (occurrences x m) m
row_counted x [] w = refl
row_counted x (y ∷ m) w =
    let here = w y (inl refl) in
    subst (λ j. Joined (λ n. n ≡ x ∷ []) j (y ∷ m)) (sym (counted_same x y m (sym here)))
    (x ∷ [], m, ap (λ z. z ∷ m) here, refl, row_counted x m (λ s h. w s (inr h)))

-- a count of a symbol, which orders nothing and brings nothing
symbol_row_obeys : (x low high : ℕ) → ObeysIf (count (symbol x) low high)
symbol_row_obeys x low high m (j, between, h) = record {
  counted = λ s p z. subst (λ y. Between low high (occurrences y m)) p (subst (Between low high) (sym (counted_row x j m h)) between);
  brought = tt;
  in_order = λ a b p q e z. false≢true e;
}

symbol_row_fits : (x low high : ℕ) → x ≤ 63 → FitsIf (count (symbol x) low high)
symbol_row_fits x low high f m w filled o =
    let (s, i, h) = has_some (symbol x) m f w (filled refl) in
    (occurrences x m, o.counted x refl (subst (λ y. Occurs y m) (sym (w s h)) h), row_counted x m w)

-- which a symbol is, once
once : (x : ℕ) (m : Message) → m ≡ x ∷ [] → Fits (count (symbol x) 1 1) m
once x m e = (1, (omega arith, inr (omega arith)), (x ∷ [], [], sym e, refl, refl))

only_once : (x : ℕ) (m : Message) → Fits (count (symbol x) 1 1) m → m ≡ x ∷ []
only_once x m (zero, (low, high), h) = absurd (omega arith)
only_once x m (suc zero, (low, high), (a, b, e, p, q)) = sym e ∙ (ap (λ n. n ++ b) p ∙ ap (λ n. x ∷ n) q)
only_once x m (suc (suc j), (low, high), h) = absurd (omega arith)

symbol_only : (P : Tree → Type 0) → ((x : ℕ) → P (symbol x)) → (t : Tree) → is_symbol t ≡ true → P t
symbol_only P h empty e = absurd (false≢true e)
symbol_only P h (symbol x) e = h x
symbol_only P h (choice l r) e = absurd (false≢true e)
symbol_only P h (sequence l r) e = absurd (false≢true e)
symbol_only P h (interleave l r) e = absurd (false≢true e)
symbol_only P h (count t low high) e = absurd (false≢true e)
symbol_only P h (nonempty t) e = absurd (false≢true e)

pub fits_obeys : (t : Tree) → Formed t → ConflictFree t → ObeysIf t
fits_obeys empty f c = λ m h. record { counted = λ s p z. absurd p; brought = tt; in_order = λ a b p q e z. p }
fits_obeys (symbol x) f c = λ m h.
    let o = symbol_row_obeys x 1 1 m (once x m h) in record { counted = o.counted; brought = o.brought; in_order = o.in_order }
fits_obeys (choice l r) (f, g) (c, d, apart) = choice_obeys l r f g apart (fits_obeys l f c) (fits_obeys r g d)
fits_obeys (sequence l r) (f, g) (c, d, apart) = row_obeys sequence_row l r f g apart (fits_obeys l f c) (fits_obeys r g d)
fits_obeys (interleave l r) (f, g) (c, d, apart) = row_obeys interleave_row l r f g apart (fits_obeys l f c) (fits_obeys r g d)
fits_obeys (count t low high) f c =
    symbol_only (λ t. ObeysIf (count t low high)) (λ x. symbol_row_obeys x low high) t c
fits_obeys (nonempty t) f c = λ m h. let o = fits_obeys t f.0 c m h.0 in record { counted = o.counted; brought = o.brought; in_order = o.in_order }

pub obeys_fits : (t : Tree) → Formed t → ConflictFree t → FitsIf t
obeys_fits empty f c = within_empty
  where
    within_empty : FitsIf empty
    within_empty [] w filled o = refl
    within_empty (x ∷ m) w filled o = absurd (w x (inl refl))
obeys_fits (symbol x) f c = λ m w filled o.
    only_once x m (symbol_row_fits x 1 1 f m w filled (record { counted = o.counted; brought = o.brought; in_order = o.in_order }))
obeys_fits (choice l r) (f, g) (c, d, apart) = choice_fits l r f g apart (obeys_fits l f c) (obeys_fits r g d)
obeys_fits (sequence l r) (f, g) (c, d, apart) = row_fits sequence_row l r f g apart (obeys_fits l f c) (obeys_fits r g d)
obeys_fits (interleave l r) (f, g) (c, d, apart) = row_fits interleave_row l r f g apart (obeys_fits l f c) (obeys_fits r g d)
obeys_fits (count t low high) f c =
    symbol_only (λ t. Formed t → FitsIf (count t low high)) (λ x. symbol_row_fits x low high) t c f.0
obeys_fits (nonempty t) f c = λ m w filled o. (
  obeys_fits t f.0 c m w (λ e. filled refl) (record { counted = o.counted; brought = o.brought; in_order = o.in_order }),
  filled refl,
)
