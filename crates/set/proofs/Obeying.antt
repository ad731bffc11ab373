-- What a tree asks of a message of its symbols, from what its parts ask. Assumes nothing.
use Rattle.std.proofs.Common.{◌≡◌, ℕ, true, false, cond, ◌⊎◌, [], ◌++◌, sym, refl, ap, ◌∙◌, subst, inl, inr, ⊎_elim}
use Rattle.std.proofs.lemmas.Bool.{cond-true, cond-false, and_from, and_left, and_right}
use Rattle.parts.specs.declared.part.Repeats.{Repeats}
use Rattle.models.specs.Conflicts.{Apart}
use Rattle.models.specs.Messages.{Message, Occurs, HasOneOf, occurrences, After, Shuffle}
use Rattle.models.specs.Trees.{Tree, Between, Stands, Formed}
use Rattle.models.specs.Trees.Tree.{empty, symbol, choice, sequence, interleave, count, nonempty}
use Rattle.rules.specs.Rules.{KeepsAll}
use Rattle.set.specs.Bounded.{bounds_in}
use Rattle.set.specs.Five.{co_occurrence, sides_rules, unless, co_occurrence_rules}
use Rattle.set.specs.Holding.{holds, symbols_in, takes_empty}
use Rattle.set.specs.Precedence.{holds_both, smallest, bars, ordered}
use Rattle.set.proofs.Agreeing.{Agree, agree_back, agree_occurs, agree_piece, shuffle_swap}
use Rattle.set.proofs.Holding.{stands_holds, holds_not, symbols_stand, Within}
use Rattle.set.proofs.Lists.{KeepsAll-append, keeps_append, KeepsAll-unless, keeps_unless}

abbrev pub InBounds : Repeats → ℕ → Type 0
InBounds bounds n = Between bounds.low bounds.high n

-- how often symbols stand in the message, what they bring and in which order they stand
pub record Obeys (t : Tree) (m : Message) : Type 0 where
  pub counted : (s : ℕ) → Stands t s → Occurs s m → InBounds (bounds_in s t) (occurrences s m)
  pub brought : KeepsAll (co_occurrence_rules t) m
  pub in_order : (a b : ℕ) → Stands t a → Stands t b → ordered a b t ≡ true → After a b m → ⊥

-- the symbols of the left bring one of the right, where that has to have one
abbrev pub Bring : Tree → Tree → Message → Type 0
Bring l r m = takes_empty r ≡ false → HasOneOf (symbols_in l) m → HasOneOf (symbols_in r) m

abbrev pub BothBring : Tree → Tree → Message → Type 0
BothBring l r m = Bring l r m × Bring r l m

-- a and b stand one in each side
abbrev pub Crossing : Tree → Tree → ℕ → ℕ → Type 0
Crossing l r a b = (Stands l a × Stands r b) ⊎ (Stands r a × Stands l b)

-- and no such a comes after such a b where the part itself orders them
abbrev pub SidesOrdered : Tree → Tree → Tree → Message → Type 0
SidesOrdered l r t m = (a b : ℕ) → Crossing l r a b → bars t a ≡ true → After a b m → ⊥

-- the tree t has the sides l and r, and asks what they ask and `own`
pub record Pair (own : Message → Type 0) (l r t : Tree) : Type 0 where
  pub stands : (s : ℕ) → Stands t s → Stands l s ⊎ Stands r s
  pub stood : (s : ℕ) → Stands l s ⊎ Stands r s → Stands t s
  pub bounds : (s : ℕ) → bounds_in s t ≡ cond (holds s l) (bounds_in s l) (bounds_in s r)
  pub part : (a b : ℕ) → smallest a b t ≡ cond (holds_both a b l) (smallest a b l) (cond (holds_both a b r) (smallest a b r) t)
  pub rules : (m : Message) → KeepsAll (co_occurrence_rules t) m → KeepsAll (co_occurrence_rules l) m × KeepsAll (co_occurrence_rules r) m × own m
  pub kept : (m : Message) → KeepsAll (co_occurrence_rules l) m × KeepsAll (co_occurrence_rules r) m × own m → KeepsAll (co_occurrence_rules t) m

pub choice_pair : (l r : Tree) → Pair (λ m. Unit {0}) l r (choice l r)
choice_pair l r = record {
  stands = λ s h. h;
  stood = λ s h. h;
  bounds = λ s. refl;
  part = λ a b. refl;
  rules = λ m h. let (f, g) = KeepsAll-append m (co_occurrence_rules l) (co_occurrence_rules r) h in (f, g, tt);
  kept = λ m (f, g, u). keeps_append m (co_occurrence_rules l) (co_occurrence_rules r) f g;
}

module _ (l r : Tree) (m : Message) where
  sides_apart : KeepsAll (co_occurrence_rules l ++ (co_occurrence_rules r ++ sides_rules l r)) m → KeepsAll (co_occurrence_rules l) m × KeepsAll (co_occurrence_rules r) m × BothBring l r m
  sides_apart h =
      let (f, more) = KeepsAll-append m (co_occurrence_rules l) _ h in
      let (g, own) = KeepsAll-append m (co_occurrence_rules r) (sides_rules l r) more in
      let (a, b) = KeepsAll-append m (unless (takes_empty r) (co_occurrence (symbols_in l) (symbols_in r))) _ own in
      (f, g, (KeepsAll-unless m (takes_empty r) _ a, KeepsAll-unless m (takes_empty l) _ b))

  sides_kept : KeepsAll (co_occurrence_rules l) m × KeepsAll (co_occurrence_rules r) m × BothBring l r m → KeepsAll (co_occurrence_rules l ++ (co_occurrence_rules r ++ sides_rules l r)) m
  sides_kept (f, g, (a, b)) =
      keeps_append m (co_occurrence_rules l) _ f
      (keeps_append m (co_occurrence_rules r) (sides_rules l r) g
      (keeps_append m (unless (takes_empty r) (co_occurrence (symbols_in l) (symbols_in r))) _ (keeps_unless m (takes_empty r) _ a) (keeps_unless m (takes_empty l) _ b)))

pub sequence_pair : (l r : Tree) → Pair (BothBring l r) l r (sequence l r)
sequence_pair l r =
    record { stands = λ s h. h; stood = λ s h. h; bounds = λ s. refl; part = λ a b. refl; rules = sides_apart l r; kept = sides_kept l r }

pub interleave_pair : (l r : Tree) → Pair (BothBring l r) l r (interleave l r)
interleave_pair l r =
    record { stands = λ s h. h; stood = λ s h. h; bounds = λ s. refl; part = λ a b. refl; rules = sides_apart l r; kept = sides_kept l r }

-- G is some way of knowing: of another message, or that there is no refuting it, or nothing at all. If at each pair of
-- sides what is so known holds of m, then so it does at the whole tree
module _ (m : Message) (whole : Tree) (G : (Message → Type 0) → Type 0) (more : (P Q : Message → Type 0) → ((n : Message) → P n → Q n) → G P → G Q)
    (each : (l r : Tree) → Formed l → Formed r → ((s : ℕ) → Stands l s → Stands whole s) → ((s : ℕ) → Stands r s → Stands whole s) → G (Bring l r) → Bring l r m) where
  abbrev Brought : Tree → Type 0
  Brought t = Formed t → ((s : ℕ) → Stands t s → Stands whole s) → G (KeepsAll (co_occurrence_rules t)) → KeepsAll (co_occurrence_rules t) m

  sides_brought : (l r t : Tree) → Pair (BothBring l r) l r t → Brought l → Brought r → Formed l × Formed r → ((s : ℕ) → Stands t s → Stands whole s) → G (KeepsAll (co_occurrence_rules t)) → KeepsAll (co_occurrence_rules t) m
  sides_brought l r t pair p q (f, g) w h =
      let u : (s : ℕ) → Stands l s → Stands whole s = λ s z. w s (pair.stood s (inl z)) in
      let v : (s : ℕ) → Stands r s → Stands whole s = λ s z. w s (pair.stood s (inr z)) in
      pair.kept m (
        p f u (more _ _ (λ n z. (pair.rules n z).0) h),
        q g v (more _ _ (λ n z. (pair.rules n z).1) h),
        (each l r f g u v (more _ _ (λ n z. (pair.rules n z).2.0) h), each r l g f v u (more _ _ (λ n z. (pair.rules n z).2.1) h)),
      )

  pub brought_from : (t : Tree) → Brought t
  brought_from empty = λ f w h. tt
  brought_from (symbol s) = λ f w h. tt
  brought_from (choice l r) = λ f w h.
      let pair = choice_pair l r in
      pair.kept m (
        brought_from l f.0 (λ s z. w s (inl z)) (more _ _ (λ n z. (pair.rules n z).0) h),
        brought_from r f.1 (λ s z. w s (inr z)) (more _ _ (λ n z. (pair.rules n z).1) h),
        tt,
      )
  brought_from (sequence l r) = sides_brought l r (sequence l r) (sequence_pair l r) (brought_from l) (brought_from r)
  brought_from (interleave l r) = sides_brought l r (interleave l r) (interleave_pair l r) (brought_from l) (brought_from r)
  brought_from (count t low high) = λ f w h. brought_from t f.0 w h
  brought_from (nonempty t) = λ f w h. brought_from t f.0 w h

-- of two messages that agree on the symbols of a tree, both do what it asks or neither
pub obeys_agree : (t : Tree) (n m : Message) → Formed t → Agree t n m → Obeys t n → Obeys t m
obeys_agree t n m f g o = record {
  counted = λ s p h. subst (InBounds (bounds_in s t)) (g.counts s p) (o.counted s p (agree_occurs t m n (agree_back t n m g) s p h));
  brought = brought_from m t (λ P. P n) (λ P Q f h. f n h)
      (λ l r f' g' u v h e (s, i, z).
      let back = agree_occurs t m n (agree_back t n m g) in
      let (x, j, y) = h e (s, i, back s (u s ((symbols_stand l f' s).0 i)) z) in
      (x, j, agree_occurs t n m g x (v x ((symbols_stand r g' x).0 j)) y))
      t f (λ s z. z) o.brought;
  in_order = λ a b p q e h. o.in_order a b p q e (g.earlier a b p q h);
}

pub obeys_nothing : (t : Tree) → Formed t → Obeys t []
obeys_nothing t f = record {
  counted = λ s p h. absurd h;
  brought = brought_from [] t (λ P. Unit {0}) (λ P Q f h. tt) (λ l r f' g' u v h e (s, i, z). absurd z) t f (λ s z. z) tt;
  in_order = λ a b p q e h. h;
}

-- where no symbol stands in both sides, each side asks of a message what it asks alone
module _ (own : Message → Type 0) (l r t : Tree) (pair : Pair own l r t) (apart : Apart l r) where
  bounds_left : (s : ℕ) → Stands l s → bounds_in s t ≡ bounds_in s l
  bounds_left s p = pair.bounds s ∙ cond-true (holds s l) _ _ (stands_holds l s p)

  bounds_right : (s : ℕ) → Stands r s → bounds_in s t ≡ bounds_in s r
  bounds_right s p = pair.bounds s ∙ cond-false (holds s l) _ _ (holds_not l s (λ q. apart s q p))

  pub ordered_left : (a b : ℕ) → Stands l a → Stands l b → ordered a b t ≡ ordered a b l
  ordered_left a b p q =
      ap (λ u. bars u a) (pair.part a b ∙ cond-true (holds_both a b l) _ _ (and_from _ _ (stands_holds l a p) (stands_holds l b q)))

  not_left : (a b : ℕ) → (Stands l a → ⊥) ⊎ (Stands l b → ⊥) → smallest a b t ≡ cond (holds_both a b r) (smallest a b r) t
  not_left a b h =
      pair.part a b ∙ cond-false (holds_both a b l) _ _ (⊎_elim (λ p. and_left _ _ (holds_not l a p)) (λ q. and_right (holds a l) _ (holds_not l b q)) h)

  pub ordered_right : (a b : ℕ) → Stands r a → Stands r b → ordered a b t ≡ ordered a b r
  ordered_right a b p q =
      ap (λ u. bars u a) (not_left a b (inl (λ z. apart a z p)) ∙ cond-true (holds_both a b r) _ _ (and_from _ _ (stands_holds r a p) (stands_holds r b q)))

  pub ordered_across : (a b : ℕ) → Crossing l r a b → ordered a b t ≡ bars t a
  ordered_across a b (inl (p, q)) =
      ap (λ u. bars u a) (not_left a b (inr (λ z. apart b z q)) ∙ cond-false (holds_both a b r) _ _ (and_left _ _ (holds_not r a (λ z. apart a p z))))
  ordered_across a b (inr (p, q)) =
      ap (λ u. bars u a) (not_left a b (inl (λ z. apart a z p)) ∙ cond-false (holds_both a b r) _ _ (and_right (holds a r) _ (holds_not r b (λ z. apart b q z))))

  pub obeys_parts : (m : Message) → Obeys t m → Obeys l m × Obeys r m × own m × SidesOrdered l r t m
  obeys_parts m o =
      let (f, g, h) = pair.rules m o.brought in (
        record {
          counted = λ s p z. subst (λ w. InBounds w (occurrences s m)) (bounds_left s p) (o.counted s (pair.stood s (inl p)) z);
          brought = f;
          in_order = λ a b p q e z. o.in_order a b (pair.stood a (inl p)) (pair.stood b (inl q)) (ordered_left a b p q ∙ e) z;
        },
        record {
          counted = λ s p z. subst (λ w. InBounds w (occurrences s m)) (bounds_right s p) (o.counted s (pair.stood s (inr p)) z);
          brought = g;
          in_order = λ a b p q e z. o.in_order a b (pair.stood a (inr p)) (pair.stood b (inr q)) (ordered_right a b p q ∙ e) z;
        },
        h,
        λ a b c e z. o.in_order a b (pair.stood a (first a b c)) (pair.stood b (second a b c)) (ordered_across a b c ∙ e) z,
      )
    where
      first : (a b : ℕ) → Crossing l r a b → Stands l a ⊎ Stands r a
      first a b c = ⊎_elim (λ z. inl z.0) (λ z. inr z.0) c

      second : (a b : ℕ) → Crossing l r a b → Stands l b ⊎ Stands r b
      second a b c = ⊎_elim (λ z. inr z.1) (λ z. inl z.1) c

  pub obeys_whole : (m : Message) → Obeys l m → Obeys r m → own m → SidesOrdered l r t m → Obeys t m
  obeys_whole m f g h across = record {
    counted = λ s p z. elim (pair.stands s p) [
      | inl q ↦ subst (λ w. InBounds w (occurrences s m)) (sym (bounds_left s q)) (f.counted s q z)
      | inr q ↦ subst (λ w. InBounds w (occurrences s m)) (sym (bounds_right s q)) (g.counted s q z)
    ];
    brought = pair.kept m (f.brought, g.brought, h);
    in_order = λ a b p q e z. elim (pair.stands a p) [
      | inl u ↦ elim (pair.stands b q) [
        | inl v ↦ f.in_order a b u v (sym (ordered_left a b u v) ∙ e) z
        | inr v ↦ across a b (inl (u, v)) (sym (ordered_across a b (inl (u, v))) ∙ e) z
      ]
      | inr u ↦ elim (pair.stands b q) [
        | inl v ↦ across a b (inr (u, v)) (sym (ordered_across a b (inr (u, v))) ∙ e) z
        | inr v ↦ g.in_order a b u v (sym (ordered_right a b u v) ∙ e) z
      ]
    ];
  }

  -- so what is put together of one message of each side obeys where both do
  pub obeys_together : Formed l → Formed r → (a b m : Message) → Shuffle a b m → Within l a → Within r b → Obeys l a → Obeys r b → own m → SidesOrdered l r t m → Obeys t m
  obeys_together f g a b m s u v p q =
      obeys_whole m
      (obeys_agree l a m f (agree_piece l r a b m apart s v) p)
      (obeys_agree r b m g (agree_piece r l b a m (λ x y z. apart x z y) (shuffle_swap s) u) q)
