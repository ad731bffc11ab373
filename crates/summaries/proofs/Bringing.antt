-- What symbols of one set bring with them, kind by kind. Assumes nothing.
use Rattle.std.proofs.Common.{ℕ, zero, suc, Bool, true, false, not, ◌&&◌, ◌||◌, ◌⊎◌, [], ◌∷◌, Decides, sym, refl, subst, inl, inr, ⊎_elim}
use Rattle.std.proofs.lemmas.Bool.{false≢true}
use Rattle.models.specs.Messages.{Message, HasOneOf, Joined}
use Rattle.models.specs.Trees.{Tree, Fits, Bounds}
use Rattle.models.specs.Trees.Tree.{symbol, choice, count, nonempty}
use Rattle.parts.specs.Sets.{In}
use Rattle.models.proofs.Inhabited.{between_low}
use Rattle.models.proofs.Occurrences.{repeated, joined_repeated}
use Rattle.models.proofs.Sides.{Together, Sides}
use Rattle.summaries.specs.Always.{Always}
use Rattle.summaries.proofs.Everywhere.{always_like, always_and, either_side, has_append, has_left, has_right, has_shuffle, shuffle_has_left, shuffle_has_right, has_repeated, repeated_has}

has_one : (set x : ℕ) → In set x → HasOneOf set (x ∷ [])
has_one set x i = (x, i, inl refl)

one_has : (set x : ℕ) → HasOneOf set (x ∷ []) → In set x
one_has set x (s, i, inl e) = subst (In set) (sym e) i
one_has set x (s, i, inr h) = absurd h

module _ (first second : ℕ) where
  -- whether messages of P with a symbol of the first set have one of the second
  abbrev pub Brings : Bool → (Message → Type 0) → Type 0
  Brings v P = Always v (λ m. P m × HasOneOf first m) (HasOneOf second)

  pub symbol_brings : (x : ℕ) (a b : Bool) → Decides a (In first x) → Decides b (In second x) → Brings (not a || b) (Fits (symbol x))
  symbol_brings x false b f g = λ m (e, h). absurd (false≢true (f.1 (one_has first x (subst (HasOneOf first) e h))))
  symbol_brings x true true f g = λ m (e, h). subst (HasOneOf second) (sym e) (has_one second x (g.0 refl))
  symbol_brings x true false f g = (x ∷ [], (refl, has_one first x (f.0 refl)), λ h. false≢true (g.1 (one_has second x h)))

  pub choice_brings : (l r : Tree) (v w : Bool) → Brings v (Fits l) → Brings w (Fits r) → Brings (v && w) (Fits (choice l r))
  choice_brings l r v w f g =
      always_and (HasOneOf second)
      (λ m (s, h). ⊎_elim (λ z. inl (z, h)) (λ z. inr (z, h)) s)
      (λ m (s, h). (inl s, h))
      (λ m (s, h). (inr s, h))
      v w f g

  module _ {put : Message → Message → Message → Type 0} {form : Tree → Tree → Tree} (sides : Sides put form) (l r : Tree) where
    abbrev Left : Message → Type 0
    Left = Together put (λ a. Fits l a × HasOneOf first a) (Fits r)

    abbrev Right : Message → Type 0
    Right = Together put (Fits l) (λ b. Fits r b × HasOneOf first b)

    which : (m : Message) → Fits (form l r) m × HasOneOf first m → Left m ⊎ Right m
    which m (f, h) =
        let (a, b, s, p, q) = sides.apart l r m f in
        ⊎_elim (λ z. inl (a, b, s, (p, z), q)) (λ z. inr (a, b, s, p, (q, z))) (has_shuffle first (sides.mixes.shuffled a b m s) h)

    on_left : (m : Message) → Left m → Fits (form l r) m × HasOneOf first m
    on_left m (a, b, s, (p, h), q) = (sides.made l r m (a, b, s, p, q), shuffle_has_left first (sides.mixes.shuffled a b m s) h)

    on_right : (m : Message) → Right m → Fits (form l r) m × HasOneOf first m
    on_right m (a, b, s, p, (q, h)) = (sides.made l r m (a, b, s, p, q), shuffle_has_right first (sides.mixes.shuffled a b m s) h)

    pub sides_bring : (v w x y : Bool) → Brings v (Fits l) → Brings w (Fits r) → Always x (Fits l) (HasOneOf second) → Always y (Fits r) (HasOneOf second) → Brings ((v || y) && (x || w)) (Fits (form l r))
    sides_bring v w x y f g every_left every_right =
        always_and (HasOneOf second) which on_left on_right (v || y) (x || w)
        (either_side second (λ a. Fits l a × HasOneOf first a) (Fits r) sides.mixes v y f every_right)
        (either_side second (Fits l) (λ b. Fits r b × HasOneOf first b) sides.mixes x w every_left g)

  -- the piece with a symbol of the first brings one of the second
  joined_brings : (P : Message → Type 0) → ((m : Message) → P m × HasOneOf first m → HasOneOf second m) → (j : ℕ) (m : Message) → Joined P j m → HasOneOf first m → HasOneOf second m
  joined_brings P f zero m e (s, i, h) = absurd (subst (HasOneOf first) e (s, i, h)).2
  joined_brings P f (suc j) m (a, b, e, p, q) h =
      subst (HasOneOf second) e
      (⊎_elim
      (λ z. has_left second a b (f a (p, z)))
      (λ z. has_right second a b (joined_brings P f j b q z))
      (has_append first a b (subst (HasOneOf first) (sym e) h)))

  pub count_brings : (t : Tree) (low high : ℕ) → Bounds low high → (v : Bool) → Brings v (Fits t) → Brings v (Fits (count t low high))
  count_brings t low high bounds true f = λ m ((j, w, q), h). joined_brings (Fits t) f j m q h
  count_brings t low high bounds false (m, (p, h), lacks) = (
    repeated low m,
    ((low, between_low low high bounds, joined_repeated (Fits t) m p low), repeated_has first low m bounds.0 h),
    λ z. lacks (has_repeated second low m z),
  )

  pub nonempty_brings : (t : Tree) (v : Bool) → Brings v (Fits t) → Brings v (Fits (nonempty t))
  nonempty_brings t v f =
      always_like (HasOneOf second) (λ m (p, h). (p.0, h)) (λ m (p, h). ((p, λ e. (subst (HasOneOf first) e h).2), h)) v f
