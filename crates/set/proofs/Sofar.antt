-- A message so far: what its symbols are with one more. Assumes nothing.
use Rattle.std.proofs.Common.{◌≡◌, ℕ, zero, suc, ◌+◌, ◌<◌, [], ◌∷◌, ◌++◌, length, get_or, Some, None, Option, sym, refl, ap, ◌∙◌, subst, inl, inr, ⊎_elim, arith, ◌≤◌}
use lib.Bits.{bit_or}
use Rattle.std.proofs.lemmas.List.{append_assoc}
use Rattle.models.specs.Messages.{Message, Occurs, occurrences}
use Rattle.models.proofs.Counted.{counted_append, counted_same, counted_other}
use Rattle.models.proofs.Occurrences.{Occurs-append, occurs_left, occurs_right}
use Rattle.parts.proofs.SymbolSets.{in_left, in_right, in_either, in_only, only_in}
use Rattle.parts.specs.Sets.{In, only}
use Rattle.set.specs.Asking.{AllIn, LastAt}

-- the set has the symbols of the message up to 63, and no others
abbrev pub SymbolsMet : Message → ℕ → Type 0
SymbolsMet m set = (s : ℕ) → (In set s → Occurs s m) × (s ≤ 63 → Occurs s m → In set s)

-- no symbol of the message is in the set
abbrev pub NoneIn : ℕ → Message → Type 0
NoneIn set m = (s : ℕ) → In set s → Occurs s m → ⊥

one_occurs : (s x : ℕ) → Occurs s (x ∷ []) → x ≡ s
one_occurs s x (inl e) = e
one_occurs s x (inr h) = absurd h

pub occurs_at : (m : Message) (i : ℕ) → i < length m → Occurs (get_or m i 0) m
occurs_at [] i within = absurd (omega arith)
occurs_at (x ∷ m) zero within = inl refl
occurs_at (x ∷ m) (suc i) within = inr (occurs_at m i (omega arith))

module _ (m : Message) (x : ℕ) where
  pub all_in_more : (set : ℕ) → AllIn set m → In set x → AllIn set (m ++ (x ∷ []))
  all_in_more set all has s h = ⊎_elim (all s) (λ z. subst (In set) (one_occurs s x z) has) (Occurs-append s m (x ∷ []) h)

  pub none_in_more : (set : ℕ) → NoneIn set m → (In set x → ⊥) → NoneIn set (m ++ (x ∷ []))
  none_in_more set none out s has h = ⊎_elim (none s has) (λ z. out (subst (In set) (sym (one_occurs s x z)) has)) (Occurs-append s m (x ∷ []) h)

  pub met_more : (set : ℕ) → SymbolsMet m set → SymbolsMet (m ++ (x ∷ [])) (bit_or set (only x))
  met_more set met s = (
    (λ h. ⊎_elim (λ z. occurs_left s m (x ∷ []) ((met s).0 z)) (λ z. occurs_right s m (x ∷ []) (inl (in_only x s z))) (in_either set (only x) s h)),
    (λ low h. ⊎_elim
        (λ z. in_left set (only x) s ((met s).1 low z))
        (λ z. in_right set (only x) s (subst (λ y. In (only y) s) (sym (one_occurs s x z)) (only_in s low)))
        (Occurs-append s m (x ∷ []) h)),
  )

  pub last_here : (a : ℕ) → x ≡ a → LastAt a (m ++ (x ∷ [])) (Some (length m))
  last_here a e = (m, [], ap (λ y. m ++ (y ∷ [])) e, refl, (λ h. h))

  pub last_more : (a : ℕ) (o : Option ℕ) → LastAt a m o → (x ≡ a → ⊥) → LastAt a (m ++ (x ∷ [])) o
  last_more a None none other = λ h. ⊎_elim none (λ z. other (one_occurs a x z)) (Occurs-append a m (x ∷ []) h)
  last_more a (Some k) (before, after, e, long, none) other = (
    before,
    after ++ (x ∷ []),
    ap (λ y. y ++ (x ∷ [])) e ∙ append_assoc before (a ∷ after) (x ∷ []),
    long,
    (λ h. ⊎_elim none (λ z. other (one_occurs a x z)) (Occurs-append a after (x ∷ []) h)),
  )

  pub count_here : (s : ℕ) → x ≡ s → occurrences s (m ++ (x ∷ [])) ≡ occurrences s m + 1
  count_here s e = let both = counted_append s m (x ∷ []) in let one = counted_same s x [] e in omega arith

  pub count_more : (s : ℕ) → (x ≡ s → ⊥) → occurrences s (m ++ (x ∷ [])) ≡ occurrences s m
  count_more s ne = let both = counted_append s m (x ∷ []) in let one = counted_other s x [] ne in omega arith
