-- Whether one symbol can come after another, kind by kind. Assumes nothing.
use Rattle.std.proofs.Common.{◌≡◌, ℕ, zero, suc, ◌-◌, ◌≤◌, Bool, not, ◌&&◌, ◌||◌, eqb, ◌⊎◌, ◌++◌, Decides, sym, refl, subst, inl, inr, ⊎_elim, arith}
use Rattle.std.proofs.lemmas.Bool.Decides.{Decides-and, Decides-or, Decides-not, Decides-eqb, Decides-like}
use Rattle.models.specs.Messages.{Message, After}
use Rattle.models.specs.Trees.{Tree, Fits, Carries, Between, Bounds, Formed}
use Rattle.models.specs.Trees.Tree.{choice, sequence, interleave, count, nonempty}
use Rattle.models.proofs.Inhabited.{some_message, between_low}
use Rattle.models.proofs.Occurrences.{Shuffle-append_back, repeated, joined_repeated, repeated_occurs}
use Rattle.models.proofs.Ordered.{after_left, after_right, after_across, After-append, After-Shuffle, After-Joined}
use Rattle.models.proofs.Sides.{Sides, sequence_sides, interleave_sides}
use Rattle.summaries.specs.Orders.{Reverses}

module _ (a b : ℕ) where
  -- where one side has it, both together have it
  side_reverses : {put : Message → Message → Message → Type 0} {form : Tree → Tree → Tree} → Sides put form → (l r : Tree) → Formed l → Formed r
      → Reverses l a b ⊎ Reverses r a b → Reverses (form l r) a b
  side_reverses sides l r u v (inl (m, p, h)) =
      let (n, q) = some_message r v in (m ++ n, sides.made l r (m ++ n) (m, n, sides.mixes.appended m n, p, q), after_left a b m n h)
  side_reverses sides l r u v (inr (n, q, h)) =
      let (m, p) = some_message l u in (m ++ n, sides.made l r (m ++ n) (m, n, sides.mixes.appended m n, p, q), after_right a b m n h)

  -- and where the left has a b and the right an a
  across_reverses : {put : Message → Message → Message → Type 0} {form : Tree → Tree → Tree} → Sides put form → (l r : Tree)
      → Carries l b × Carries r a → Reverses (form l r) a b
  across_reverses sides l r ((m, p, f), (n, q, g)) =
      (m ++ n, sides.made l r (m ++ n) (m, n, sides.mixes.appended m n, p, q), after_across a b m n f g)

  pub choice_reverses : (l r : Tree) (v w : Bool) → Decides v (Reverses l a b) → Decides w (Reverses r a b) → Decides (v || w) (Reverses (choice l r) a b)
  choice_reverses l r v w f g =
      Decides-like (v || w)
      (⊎_elim (λ (m, p, h). (m, inl p, h)) (λ (m, p, h). (m, inr p, h)))
      (λ (m, p, h). ⊎_elim (λ z. inl (m, z, h)) (λ z. inr (m, z, h)) p)
      (Decides-or v w f g)

  module _ (l r : Tree) (u : Formed l) (s : Formed r) (v w : Bool) (f : Decides v (Reverses l a b)) (g : Decides w (Reverses r a b)) where
    sequence_apart : Reverses (sequence l r) a b → (Reverses l a b ⊎ Reverses r a b) ⊎ (Carries l b × Carries r a)
    sequence_apart (k, (m, n, e, p, q), h) =
        elim (After-append a b m n (subst (After a b) (sym e) h)) [
          | inl (inl z) ↦ inl (inl (m, p, z))
          | inl (inr z) ↦ inl (inr (n, q, z))
          | inr (x, y) ↦ inr ((m, p, x), (n, q, y))
        ]

    pub sequence_reverses : (x y : Bool) → Decides x (Carries l b) → Decides y (Carries r a) → Decides ((v || w) || (x && y)) (Reverses (sequence l r) a b)
    sequence_reverses x y d e =
        Decides-like ((v || w) || (x && y))
        (⊎_elim (side_reverses sequence_sides l r u s) (across_reverses sequence_sides l r))
        sequence_apart
        (Decides-or (v || w) (x && y) (Decides-or v w f g) (Decides-and x y d e))

    -- a left with an a and a right with a b, the right put in front
    back_reverses : Carries l a × Carries r b → Reverses (interleave l r) a b
    back_reverses ((m, p, x), (n, q, y)) = (n ++ m, (m, n, Shuffle-append_back m n, p, q), after_across a b n m y x)

    interleave_apart : Reverses (interleave l r) a b → (Reverses l a b ⊎ Reverses r a b) ⊎ ((Carries l b × Carries r a) ⊎ (Carries l a × Carries r b))
    interleave_apart (k, (m, n, e, p, q), h) =
        elim (After-Shuffle a b e h) [
          | inl (inl z) ↦ inl (inl (m, p, z))
          | inl (inr z) ↦ inl (inr (n, q, z))
          | inr (inl (x, y)) ↦ inr (inl ((m, p, x), (n, q, y)))
          | inr (inr (x, y)) ↦ inr (inr ((m, p, x), (n, q, y)))
        ]

    pub interleave_reverses : (x y x' y' : Bool) → Decides x (Carries l b) → Decides y (Carries r a) → Decides x' (Carries l a) → Decides y' (Carries r b)
        → Decides ((v || w) || ((x && y) || (x' && y'))) (Reverses (interleave l r) a b)
    interleave_reverses x y x' y' d e d' e' =
        Decides-like ((v || w) || ((x && y) || (x' && y')))
        (⊎_elim (side_reverses interleave_sides l r u s) (⊎_elim (across_reverses interleave_sides l r) back_reverses))
        interleave_apart
        (Decides-or (v || w) ((x && y) || (x' && y')) (Decides-or v w f g) (Decides-or (x && y) (x' && y') (Decides-and x y d e) (Decides-and x' y' d' e')))

  module _ (t : Tree) (low high : ℕ) (bounds : Bounds low high) where
    repeated_reverses : Reverses t a b → Reverses (count t low high) a b
    repeated_reverses (m, p, h) = (repeated low m, (low, between_low low high bounds, joined_repeated (Fits t) m p low), again low bounds.0)
      where
        again : (j : ℕ) → 1 ≤ j → After a b (repeated j m)
        again zero some = absurd (omega arith)
        again (suc j) some = after_left a b m (repeated j m) h

    -- a piece with a b and then pieces with an a, at least two in all
    pieces_reverse : (Carries t a × Carries t b) × (high ≡ 1 → ⊥) → Reverses (count t low high) a b
    pieces_reverse (((m, p, f), (n, q, g)), more) =
        let k = low - 2 in
        let within : Between low high (suc (suc k)) = (omega arith, ⊎_elim inl (λ (x, y). inr (omega (arith, bounds.0, x, more))) bounds.2) in
        let rest = repeated (suc k) m in
        let first = repeated_occurs a (suc k) m (omega arith) f in
        (n ++ rest, (suc (suc k), within, (n, rest, refl, q, joined_repeated (Fits t) m p (suc k))), after_across a b n rest g first)

    count_apart : Reverses (count t low high) a b → Reverses t a b ⊎ ((Carries t a × Carries t b) × (high ≡ 1 → ⊥))
    count_apart (m, (j, (from, to), q), h) =
        ⊎_elim inl
        (λ (pieces, two). inr (pieces, λ one. ⊎_elim (λ z. omega (arith, z, one)) (λ z. omega (arith, z, one, two)) to))
        (After-Joined a b (Fits t) j m q h)

    pub count_reverses : (v x y : Bool) → Decides v (Reverses t a b) → Decides x (Carries t a) → Decides y (Carries t b)
        → Decides (v || ((x && y) && not (eqb high 1))) (Reverses (count t low high) a b)
    count_reverses v x y f d e =
        Decides-like (v || ((x && y) && not (eqb high 1)))
        (⊎_elim repeated_reverses pieces_reverse)
        count_apart
        (Decides-or v ((x && y) && not (eqb high 1)) f (Decides-and (x && y) (not (eqb high 1)) (Decides-and x y d e) (Decides-not (eqb high 1) (Decides-eqb high 1))))

  pub nonempty_reverses : (t : Tree) (v : Bool) → Decides v (Reverses t a b) → Decides v (Reverses (nonempty t) a b)
  nonempty_reverses t v f =
      Decides-like v (λ (m, p, h). (m, (p, λ e. subst (After a b) e h), h)) (λ (m, p, h). (m, p.0, h)) f
