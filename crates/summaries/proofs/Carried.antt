-- Which symbols the messages of a tree have, kind by kind. Assumes nothing.
use Rattle.std.proofs.Common.{◌≡◌, ℕ, ◌^◌, ◌≤◌, Bool, ◌||◌, ◌⊎◌, [], ◌∷◌, ◌++◌, Decides, refl, subst, inl, inr, ⊎_elim, arith}
use lib.Bits.{bit_or}
use Rattle.std.proofs.lemmas.Bool.Decides.{Decides-or, Decides-like}
use Rattle.models.specs.Messages.{Message, Occurs}
use Rattle.parts.specs.Sets.{In}
use Rattle.summaries.specs.SymbolsOf.{SymbolsAre, StandingAre}
use Rattle.models.specs.Trees.{Tree, Fits, Stands, Carries, Bounds, Formed}
use Rattle.models.specs.Trees.Tree.{empty, symbol, choice, sequence, interleave, count, nonempty}
use Rattle.models.proofs.Inhabited.{some_message, between_low}
use Rattle.models.proofs.Occurrences.{occurs_left, occurs_right, Occurs-Shuffle, Occurs-Joined, repeated, joined_repeated, repeated_occurs}
use Rattle.models.proofs.Sides.{Sides, sequence_sides, interleave_sides}
use Rattle.parts.proofs.SymbolSets.{in_left, in_right, in_either, in_one, in_none, power_bit}

pub carries_empty : (s : ℕ) → Carries empty s → ⊥
carries_empty s (m, e, h) = subst (Occurs s) e h

pub carries_symbol : (x s : ℕ) → Carries (symbol x) s → x ≡ s
carries_symbol x s (m, e, h) = ⊎_elim (λ z. z) (λ z. absurd z) (subst (Occurs s) e h)

pub symbol_carries : (x : ℕ) → Carries (symbol x) x
symbol_carries x = (x ∷ [], refl, inl refl)

pub carries_choice : (l r : Tree) (s : ℕ) → Carries (choice l r) s → Carries l s ⊎ Carries r s
carries_choice l r s (m, inl f, h) = inl (m, f, h)
carries_choice l r s (m, inr f, h) = inr (m, f, h)

pub choice_carries : (l r : Tree) (s : ℕ) → Carries l s ⊎ Carries r s → Carries (choice l r) s
choice_carries l r s (inl (m, f, h)) = (m, inl f, h)
choice_carries l r s (inr (m, f, h)) = (m, inr f, h)

module _ {put : Message → Message → Message → Type 0} {form : Tree → Tree → Tree} (sides : Sides put form) (l r : Tree) (s : ℕ) where
  pub carries_sides : Carries (form l r) s → Carries l s ⊎ Carries r s
  carries_sides (m, f, h) =
      let (a, b, p, f, g) = sides.apart l r m f in
      ⊎_elim (λ z. inl (a, f, z)) (λ z. inr (b, g, z)) (Occurs-Shuffle s (sides.mixes.shuffled a b m p) h)

  pub sides_carry : Formed l → Formed r → Carries l s ⊎ Carries r s → Carries (form l r) s
  sides_carry u v (inl (a, f, h)) =
      let (b, g) = some_message r v in (a ++ b, sides.made l r (a ++ b) (a, b, sides.mixes.appended a b, f, g), occurs_left s a b h)
  sides_carry u v (inr (b, g, h)) =
      let (a, f) = some_message l u in (a ++ b, sides.made l r (a ++ b) (a, b, sides.mixes.appended a b, f, g), occurs_right s a b h)

pub carries_sequence : (l r : Tree) (s : ℕ) → Carries (sequence l r) s → Carries l s ⊎ Carries r s
carries_sequence l r s h = carries_sides sequence_sides l r s h

pub sequence_carries : (l r : Tree) (s : ℕ) → Formed l → Formed r → Carries l s ⊎ Carries r s → Carries (sequence l r) s
sequence_carries l r s u v h = sides_carry sequence_sides l r s u v h

pub carries_interleave : (l r : Tree) (s : ℕ) → Carries (interleave l r) s → Carries l s ⊎ Carries r s
carries_interleave l r s h = carries_sides interleave_sides l r s h

pub interleave_carries : (l r : Tree) (s : ℕ) → Formed l → Formed r → Carries l s ⊎ Carries r s → Carries (interleave l r) s
interleave_carries l r s u v h = sides_carry interleave_sides l r s u v h

pub carries_count : (t : Tree) (low high s : ℕ) → Carries (count t low high) s → Carries t s
carries_count t low high s (m, (j, w, q), h) = Occurs-Joined (Fits t) s j m q h

occurs_repeated : (s j : ℕ) (m : Message) → 1 ≤ j → Occurs s m → Occurs s (repeated j m)
occurs_repeated s j m some h = repeated_occurs s j m some h

pub count_carries : (t : Tree) (low high s : ℕ) → Bounds low high → Carries t s → Carries (count t low high) s
count_carries t low high s b (m, f, h) =
    (repeated low m, (low, between_low low high b, joined_repeated (Fits t) m f low), occurs_repeated s low m b.0 h)

pub carries_nonempty : (t : Tree) (s : ℕ) → Carries (nonempty t) s → Carries t s
carries_nonempty t s (m, f, h) = (m, f.0, h)

pub nonempty_carries : (t : Tree) (s : ℕ) → Carries t s → Carries (nonempty t) s
nonempty_carries t s (m, f, h) = (m, (f, λ e. subst (Occurs s) e h), h)

-- the symbols of a part, from those of the parts taken
module _ (a b : ℕ) (l r : Tree) (f : SymbolsAre l a) (g : SymbolsAre r b) where
  split : (s : ℕ) → In (bit_or a b) s → Carries l s ⊎ Carries r s
  split s h = ⊎_elim (λ z. inl ((f s).0 z)) (λ z. inr ((g s).0 z)) (in_either a b s h)

  united : (s : ℕ) → Carries l s ⊎ Carries r s → In (bit_or a b) s
  united s h = ⊎_elim (λ z. in_left a b s ((f s).1 z)) (λ z. in_right a b s ((g s).1 z)) h

  pub choice_symbols : SymbolsAre (choice l r) (bit_or a b)
  choice_symbols s = ((λ h. choice_carries l r s (split s h)), (λ h. united s (carries_choice l r s h)))

  pub sides_symbols : {put : Message → Message → Message → Type 0} {form : Tree → Tree → Tree} → Sides put form → Formed l → Formed r → SymbolsAre (form l r) (bit_or a b)
  sides_symbols sides u v s = ((λ h. sides_carry sides l r s u v (split s h)), (λ h. united s (carries_sides sides l r s h)))

  pub sequence_symbols : Formed l → Formed r → SymbolsAre (sequence l r) (bit_or a b)
  sequence_symbols = sides_symbols sequence_sides

  pub interleave_symbols : Formed l → Formed r → SymbolsAre (interleave l r) (bit_or a b)
  interleave_symbols = sides_symbols interleave_sides

pub empty_symbols : SymbolsAre empty 0
empty_symbols s = ((λ h. absurd (in_none s h)), (λ h. absurd (carries_empty s h)))

pub symbol_symbols : (x : ℕ) → x ≤ 63 → SymbolsAre (symbol x) (2 ^ x)
symbol_symbols x low s = (
  (λ h. subst (Carries (symbol x)) (power_bit x s h.1) (symbol_carries x)),
  (λ h. subst (In (2 ^ x)) (carries_symbol x s h) (in_one x low)),
)

pub count_symbols : (a : ℕ) (t : Tree) (low high : ℕ) → Bounds low high → SymbolsAre t a → SymbolsAre (count t low high) a
count_symbols a t low high b f s = ((λ h. count_carries t low high s b ((f s).0 h)), (λ h. (f s).1 (carries_count t low high s h)))

pub nonempty_symbols : (a : ℕ) (t : Tree) → SymbolsAre t a → SymbolsAre (nonempty t) a
nonempty_symbols a t f s = ((λ h. nonempty_carries t s ((f s).0 h)), (λ h. (f s).1 (carries_nonempty t s h)))

-- the symbols of a well-formed tree's messages are those that stand in it
stands_carried : (t : Tree) (s : ℕ) → Formed t → Stands t s → Carries t s
stands_carried empty s f h = absurd h
stands_carried (symbol x) s f h = subst (Carries (symbol x)) h (symbol_carries x)
stands_carried (choice l r) s f h = choice_carries l r s (⊎_elim (λ z. inl (stands_carried l s f.0 z)) (λ z. inr (stands_carried r s f.1 z)) h)
stands_carried (sequence l r) s f h =
    sequence_carries l r s f.0 f.1 (⊎_elim (λ z. inl (stands_carried l s f.0 z)) (λ z. inr (stands_carried r s f.1 z)) h)
stands_carried (interleave l r) s f h =
    interleave_carries l r s f.0 f.1 (⊎_elim (λ z. inl (stands_carried l s f.0 z)) (λ z. inr (stands_carried r s f.1 z)) h)
stands_carried (count t low high) s f h = count_carries t low high s f.1 (stands_carried t s f.0 h)
stands_carried (nonempty t) s f h = nonempty_carries t s (stands_carried t s f.0 h)

pub carried_stands : (t : Tree) (s : ℕ) → Carries t s → Stands t s
carried_stands empty s h = carries_empty s h
carried_stands (symbol x) s h = carries_symbol x s h
carried_stands (choice l r) s h = ⊎_elim (λ z. inl (carried_stands l s z)) (λ z. inr (carried_stands r s z)) (carries_choice l r s h)
carried_stands (sequence l r) s h = ⊎_elim (λ z. inl (carried_stands l s z)) (λ z. inr (carried_stands r s z)) (carries_sequence l r s h)
carried_stands (interleave l r) s h = ⊎_elim (λ z. inl (carried_stands l s z)) (λ z. inr (carried_stands r s z)) (carries_interleave l r s h)
carried_stands (count t low high) s h = carried_stands t s (carries_count t low high s h)
carried_stands (nonempty t) s h = carried_stands t s (carries_nonempty t s h)

stands_low : (t : Tree) (s : ℕ) → Formed t → Stands t s → s ≤ 63
stands_low empty s f h = absurd h
stands_low (symbol x) s f h = omega arith
stands_low (choice l r) s f h = ⊎_elim (stands_low l s f.0) (stands_low r s f.1) h
stands_low (sequence l r) s f h = ⊎_elim (stands_low l s f.0) (stands_low r s f.1) h
stands_low (interleave l r) s f h = ⊎_elim (stands_low l s f.0) (stands_low r s f.1) h
stands_low (count t low high) s f h = stands_low t s f.0 h
stands_low (nonempty t) s f h = stands_low t s f.0 h

-- and so are below 64
pub carries_low : (t : Tree) (s : ℕ) → Formed t → Carries t s → s ≤ 63
carries_low t s f h = stands_low t s f (carried_stands t s h)

pub standing_are : (t : Tree) (set : ℕ) → Formed t → SymbolsAre t set → StandingAre t set
standing_are t set f g s = ((λ h. carried_stands t s ((g s).0 h)), (λ h. (g s).1 (stands_carried t s f h)))

-- whether a symbol is carried, from whether the parts taken carry it
module _ (l r : Tree) (s : ℕ) (v w : Bool) (f : Decides v (Carries l s)) (g : Decides w (Carries r s)) where
  pub choice_carried : Decides (v || w) (Carries (choice l r) s)
  choice_carried = Decides-like (v || w) (choice_carries l r s) (carries_choice l r s) (Decides-or v w f g)

  pub sides_carried : {put : Message → Message → Message → Type 0} {form : Tree → Tree → Tree} → Sides put form → Formed l → Formed r → Decides (v || w) (Carries (form l r) s)
  sides_carried sides x y = Decides-like (v || w) (sides_carry sides l r s x y) (carries_sides sides l r s) (Decides-or v w f g)

module _ (t : Tree) (s : ℕ) (v : Bool) (f : Decides v (Carries t s)) where
  pub count_carried : (low high : ℕ) → Bounds low high → Decides v (Carries (count t low high) s)
  count_carried low high b = Decides-like v (count_carries t low high s b) (carries_count t low high s) f

  pub nonempty_carried : Decides v (Carries (nonempty t) s)
  nonempty_carried = Decides-like v (nonempty_carries t s) (carries_nonempty t s) f
