-- Whether every message has a symbol of a set, kind by kind. Assumes nothing.
use Rattle.std.proofs.Common.{◌≡◌, ℕ, zero, suc, ◌≤◌, Bool, true, false, ◌&&◌, ◌||◌, ◌⊎◌, [], ◌∷◌, ◌++◌, subst, inl, inr, ⊎_elim, arith}
use Rattle.models.specs.Messages.{Message, HasOneOf, Shuffle, Joined}
use Rattle.models.specs.Trees.{Tree, Fits, Bounds}
use Rattle.models.specs.Trees.Tree.{choice, count, nonempty}
use Rattle.models.proofs.Inhabited.{repeated_nonempty, between_low}
use Rattle.models.proofs.Occurrences.{Occurs-append, occurs_left, occurs_right, occurs_repeated, Occurs-Shuffle, shuffle_occurs_left, shuffle_occurs_right, repeated, joined_repeated, repeated_occurs}
use Rattle.models.proofs.Sides.{Together, Mixes, Sides, shuffle_nonempty, nonempty_left, nonempty_right}
use Rattle.models.proofs.Unlike.{cons-nil}
use Rattle.summaries.specs.Always.{Always, EveryHas}

-- all of S, which is Q in other words
pub always_like : (P : Message → Type 0) {Q S : Message → Type 0}
    → ((m : Message) → S m → Q m) → ((m : Message) → Q m → S m) → (x : Bool) → Always x Q P → Always x S P
always_like P to from true f = λ m s. f m (to m s)
always_like P to from false (m, q, lacks) = (m, from m q, lacks)

-- all of S, which is Q and R together
pub always_and : (P : Message → Type 0) {Q R S : Message → Type 0}
    → ((m : Message) → S m → Q m ⊎ R m) → ((m : Message) → Q m → S m) → ((m : Message) → R m → S m)
    → (x y : Bool) → Always x Q P → Always y R P → Always (x && y) S P
always_and P part left right true true f g = λ m s. ⊎_elim (f m) (g m) (part m s)
always_and P part left right true false f (m, r, lacks) = (m, right m r, lacks)
always_and P part left right false y (m, q, lacks) g = (m, left m q, lacks)

-- messages that are put together have a symbol of the set where a piece has
module _ (set : ℕ) where
  pub has_append : (a b : Message) → HasOneOf set (a ++ b) → HasOneOf set a ⊎ HasOneOf set b
  has_append a b (s, i, h) = ⊎_elim (λ z. inl (s, i, z)) (λ z. inr (s, i, z)) (Occurs-append s a b h)

  pub has_left : (a b : Message) → HasOneOf set a → HasOneOf set (a ++ b)
  has_left a b (s, i, h) = (s, i, occurs_left s a b h)

  pub has_right : (a b : Message) → HasOneOf set b → HasOneOf set (a ++ b)
  has_right a b (s, i, h) = (s, i, occurs_right s a b h)

  pub has_shuffle : {a b m : Message} → Shuffle a b m → HasOneOf set m → HasOneOf set a ⊎ HasOneOf set b
  has_shuffle f (s, i, h) = ⊎_elim (λ z. inl (s, i, z)) (λ z. inr (s, i, z)) (Occurs-Shuffle s f h)

  pub shuffle_has_left : {a b m : Message} → Shuffle a b m → HasOneOf set a → HasOneOf set m
  shuffle_has_left f (s, i, h) = (s, i, shuffle_occurs_left s f h)

  pub shuffle_has_right : {a b m : Message} → Shuffle a b m → HasOneOf set b → HasOneOf set m
  shuffle_has_right f (s, i, h) = (s, i, shuffle_occurs_right s f h)

  pub has_repeated : (j : ℕ) (m : Message) → HasOneOf set (repeated j m) → HasOneOf set m
  has_repeated j m (s, i, h) = (s, i, occurs_repeated s j m h)

  pub repeated_has : (j : ℕ) (m : Message) → 1 ≤ j → HasOneOf set m → HasOneOf set (repeated j m)
  repeated_has j m some (s, i, h) = (s, i, repeated_occurs s j m some h)

  -- put together, every message has one where every message of one side has
  pub either_side : (L R : Message → Type 0) {put : Message → Message → Message → Type 0} → Mixes put → (x y : Bool)
      → Always x L (HasOneOf set) → Always y R (HasOneOf set) → Always (x || y) (Together put L R) (HasOneOf set)
  either_side L R mixes true y f g = λ m (a, b, s, p, q). shuffle_has_left (mixes.shuffled a b m s) (f a p)
  either_side L R mixes false true f g = λ m (a, b, s, p, q). shuffle_has_right (mixes.shuffled a b m s) (g b q)
  either_side L R mixes false false (a, p, lacks) (b, q, lacks') =
      (a ++ b, (a, b, mixes.appended a b, p, q), λ h. ⊎_elim lacks lacks' (has_append a b h))

  module _ {put : Message → Message → Message → Type 0} {form : Tree → Tree → Tree} (sides : Sides put form) (l r : Tree) where
    -- a message is nonempty where one of its sides is
    nonempty_side : (m : Message) → Fits (nonempty (form l r)) m → Together put (Fits (nonempty l)) (Fits r) m ⊎ Together put (Fits l) (Fits (nonempty r)) m
    nonempty_side m (f, ne) =
        let (a, b, s, p, q) = sides.apart l r m f in
        ⊎_elim (λ z. inl (a, b, s, (p, z), q)) (λ z. inr (a, b, s, p, (q, z))) (shuffle_nonempty (sides.mixes.shuffled a b m s) ne)

    left_nonempty : (m : Message) → Together put (Fits (nonempty l)) (Fits r) m → Fits (nonempty (form l r)) m
    left_nonempty m (a, b, s, p, q) = (sides.made l r m (a, b, s, p.0, q), nonempty_left (sides.mixes.shuffled a b m s) p.1)

    right_nonempty : (m : Message) → Together put (Fits l) (Fits (nonempty r)) m → Fits (nonempty (form l r)) m
    right_nonempty m (a, b, s, p, q) = (sides.made l r m (a, b, s, p, q.0), nonempty_right (sides.mixes.shuffled a b m s) q.1)

    pub sides_every : (x x' y y' : Bool) → EveryHas set l (x, x') → EveryHas set r (y, y') → EveryHas set (form l r) ((x || y), ((x' || y) && (x || y')))
    sides_every x x' y y' (f, f') (g, g') = (
      always_like (HasOneOf set) (sides.apart l r) (sides.made l r) (x || y) (either_side (Fits l) (Fits r) sides.mixes x y f g),
      always_and (HasOneOf set) nonempty_side left_nonempty right_nonempty (x' || y) (x || y')
          (either_side (Fits (nonempty l)) (Fits r) sides.mixes x' y f' g)
          (either_side (Fits l) (Fits (nonempty r)) sides.mixes x y' f g'),
    )

  pub choice_every : (l r : Tree) (x x' y y' : Bool) → EveryHas set l (x, x') → EveryHas set r (y, y') → EveryHas set (choice l r) ((x && y), (x' && y'))
  choice_every l r x x' y y' (f, f') (g, g') = (
    always_and (HasOneOf set) (λ m s. s) (λ m s. inl s) (λ m s. inr s) x y f g,
    always_and (HasOneOf set)
        (λ m (s, ne). ⊎_elim (λ z. inl (z, ne)) (λ z. inr (z, ne)) s)
        (λ m (s, ne). (inl s, ne))
        (λ m (s, ne). (inr s, ne))
        x' y' f' g',
  )

  -- the first piece has one
  first_has : (P : Message → Type 0) → ((m : Message) → P m → HasOneOf set m) → (j : ℕ) (m : Message) → 1 ≤ j → Joined P j m → HasOneOf set m
  first_has P f zero m some q = absurd (omega arith)
  first_has P f (suc j) m some (a, b, e, p, q) = subst (HasOneOf set) e (has_left a b (f a p))

  -- the first nonempty piece has one
  nonempty_has : (P : Message → Type 0) → ((m : Message) → P m × (m ≡ [] → ⊥) → HasOneOf set m) → (j : ℕ) (m : Message) → (m ≡ [] → ⊥) → Joined P j m → HasOneOf set m
  nonempty_has P f zero m ne q = absurd (ne q)
  nonempty_has P f (suc j) m ne ([], b, e, p, q) = nonempty_has P f j m ne (subst (Joined P j) e q)
  nonempty_has P f (suc j) m ne (x ∷ a, b, e, p, q) = subst (HasOneOf set) e (has_left (x ∷ a) b (f (x ∷ a) (p, cons-nil x a)))

  module _ (t : Tree) (low high : ℕ) (bounds : Bounds low high) where
    count_all : (x : Bool) → Always x (Fits t) (HasOneOf set) → Always x (Fits (count t low high)) (HasOneOf set)
    count_all true f = λ m (j, w, q). first_has (Fits t) f j m (omega (arith, bounds.0, w.0)) q
    count_all false (m, p, lacks) =
        (repeated low m, (low, between_low low high bounds, joined_repeated (Fits t) m p low), λ h. lacks (has_repeated low m h))

    count_nonempties : (x : Bool) → Always x (Fits (nonempty t)) (HasOneOf set) → Always x (Fits (nonempty (count t low high))) (HasOneOf set)
    count_nonempties true f = λ m ((j, w, q), ne). nonempty_has (Fits t) f j m ne q
    count_nonempties false (m, (p, ne), lacks) = (
      repeated low m,
      ((low, between_low low high bounds, joined_repeated (Fits t) m p low), repeated_nonempty low m bounds.0 ne),
      λ h. lacks (has_repeated low m h),
    )

    pub count_every : (x x' : Bool) → EveryHas set t (x, x') → EveryHas set (count t low high) (x, x')
    count_every x x' (f, g) = (count_all x f, count_nonempties x' g)
