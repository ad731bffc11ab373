-- Which symbols of a tree a symbol may not come after, from those of its sides. Assumes nothing.
use Rattle.std.proofs.Common.{◌≡◌, ℕ, true, ◌⊎◌, sym, refl, ◌∙◌, inl, inr, ⊎_elim}
use lib.Bits.{bit_or}
use Rattle.std.proofs.lemmas.Bool.{false≢true}
use Rattle.parts.specs.Sets.{In}
use Rattle.parts.proofs.SymbolSets.{in_left, in_right, in_either}
use Rattle.models.specs.Conflicts.{Apart}
use Rattle.models.specs.Messages.{Message}
use Rattle.models.specs.Trees.{Tree, Stands, Formed}
use Rattle.models.specs.Trees.Tree.{choice, sequence, interleave}
use Rattle.summaries.specs.SymbolsOf.{SymbolsAre}
use Rattle.summaries.proofs.Carried.{standing_are}
use Rattle.set.specs.Ordering.{OthersAre, BesideIs}
use Rattle.set.specs.Precedence.{bars}
use Rattle.set.proofs.Holding.{holds_stands, stands_holds}
use Rattle.set.proofs.Obeying.{Pair, Crossing, choice_pair, sequence_pair, interleave_pair, ordered_left, ordered_right, ordered_across}

module _ (own : Message → Type 0) (l r t : Tree) (pair : Pair own l r t) (apart : Apart l r) (a : ℕ) where
  -- a and b stand one in each side, and the tree itself orders them
  abbrev Across : ℕ → Type 0
  Across b = Crossing l r a b × (bars t a ≡ true)

  -- the set has those of either side and those across
  whole : (left right all : ℕ) → OthersAre a l left → OthersAre a r right
      → ((b : ℕ) → (In all b → (In left b ⊎ In right b) ⊎ Across b) × ((In left b ⊎ In right b) ⊎ Across b → In all b)) → OthersAre a t all
  whole left right all f g are b = (
    (λ h. elim ((are b).0 h) [
      | inl (inl z) ↦ let (p, q, e) = (f b).0 z in (pair.stood a (inl p), pair.stood b (inl q), ordered_left own l r t pair apart a b p q ∙ e)
      | inl (inr z) ↦ let (p, q, e) = (g b).0 z in (pair.stood a (inr p), pair.stood b (inr q), ordered_right own l r t pair apart a b p q ∙ e)
      | inr (c, e) ↦ (
        pair.stood a (⊎_elim (λ z. inl z.0) (λ z. inr z.0) c),
        pair.stood b (⊎_elim (λ z. inr z.1) (λ z. inl z.1) c),
        ordered_across own l r t pair apart a b c ∙ e,
      )
    ]),
    (λ (p, q, e). (are b).1 (elim (pair.stands a p) [
      | inl u ↦ elim (pair.stands b q) [
        | inl v ↦ inl (inl ((f b).1 (u, v, sym (ordered_left own l r t pair apart a b u v) ∙ e)))
        | inr v ↦ inr (inl (u, v), sym (ordered_across own l r t pair apart a b (inl (u, v))) ∙ e)
      ]
      | inr u ↦ elim (pair.stands b q) [
        | inl v ↦ inr (inr (u, v), sym (ordered_across own l r t pair apart a b (inr (u, v))) ∙ e)
        | inr v ↦ inl (inr ((g b).1 (u, v, sym (ordered_right own l r t pair apart a b u v) ∙ e)))
      ]
    ])),
  )

module _ (l r : Tree) (apart : Apart l r) (a left right : ℕ) (f : OthersAre a l left) (g : OthersAre a r right) where
  either : (b all : ℕ) → In (bit_or (bit_or left right) all) b → (In left b ⊎ In right b) ⊎ In all b
  either b all h = ⊎_elim (λ z. inl (in_either left right b z)) inr (in_either (bit_or left right) all b h)

  each : (b all : ℕ) → (In left b ⊎ In right b) ⊎ In all b → In (bit_or (bit_or left right) all) b
  each b all (inl (inl z)) = in_left (bit_or left right) all b (in_left left right b z)
  each b all (inl (inr z)) = in_left (bit_or left right) all b (in_right left right b z)
  each b all (inr z) = in_right (bit_or left right) all b z

  pub interleave_others : OthersAre a (interleave l r) (bit_or left right)
  interleave_others = whole _ l r (interleave l r) (interleave_pair l r) apart a left right (bit_or left right) f g (λ b. (
    (λ h. inl (in_either left right b h)),
    (λ h. elim h [ inl (inl z) ↦ in_left left right b z | inl (inr z) ↦ in_right left right b z | inr (c, e) ↦ absurd (false≢true e) ]),
  ))

  module _ (ls rs : ℕ) (u : Formed l) (v : Formed r) (p : SymbolsAre l ls) (q : SymbolsAre r rs) (x : ℕ) (x_is : BesideIs a ls rs x) where
    in_l : (s : ℕ) → (In ls s → Stands l s) × (Stands l s → In ls s)
    in_l = standing_are l ls u p

    in_r : (s : ℕ) → (In rs s → Stands r s) × (Stands r s → In rs s)
    in_r = standing_are r rs v q

    pub sequence_others : OthersAre a (sequence l r) (bit_or (bit_or left right) x)
    sequence_others = whole _ l r (sequence l r) (sequence_pair l r) apart a left right _ f g (λ b. (
      (λ h. ⊎_elim inl (λ z. let (i, j) = (x_is b).0 z in let s = (in_l a).0 i in inr (inl (s, (in_r b).0 j), stands_holds l a s)) (either b x h)),
      (λ h. each b x (elim h [
        | inl z ↦ inl z
        | inr (inl (i, j), e) ↦ inr ((x_is b).1 ((in_l a).1 i, (in_r b).1 j))
        | inr (inr (i, j), e) ↦ absurd (apart a ((holds_stands l a).0 e) i)
      ])),
    ))

    pub choice_others : (y : ℕ) → BesideIs a rs ls y → OthersAre a (choice l r) (bit_or (bit_or left right) (bit_or x y))
    choice_others y y_is = whole _ l r (choice l r) (choice_pair l r) apart a left right _ f g (λ b. (
      (λ h. ⊎_elim inl
          (λ z. elim (in_either x y b z) [
            | inl w ↦ let (i, j) = (x_is b).0 w in inr (inl ((in_l a).0 i, (in_r b).0 j), refl)
            | inr w ↦ let (i, j) = (y_is b).0 w in inr (inr ((in_r a).0 i, (in_l b).0 j), refl)
          ])
          (either b (bit_or x y) h)),
      (λ h. each b (bit_or x y) (elim h [
        | inl z ↦ inl z
        | inr (inl (i, j), e) ↦ inr (in_left x y b ((x_is b).1 ((in_l a).1 i, (in_r b).1 j)))
        | inr (inr (i, j), e) ↦ inr (in_right x y b ((y_is b).1 ((in_r a).1 i, (in_l b).1 j)))
      ])),
    ))
