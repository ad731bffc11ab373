-- The symbols of a message with one more. Assumes nothing.
use Rattle.std.proofs.Common.{◌≡◌, ℕ, ◌+◌, ◌<◌, [], ◌∷◌, ◌++◌, length, get_or, take, sym, subst, inl, inr, ⊎_elim}
use Rattle.std.proofs.lemmas.List.{take_more}
use lib.Bits.{bit_or}
use Rattle.parts.specs.Sets.{In, only}
use Rattle.parts.proofs.SymbolSets.{in_left, in_right, in_either, in_only, only_in, in_none}
use Rattle.models.specs.Messages.{Message, Occurs}
use Rattle.models.proofs.Occurrences.{Occurs-append, occurs_left, occurs_right}
use Rattle.makers.specs.Found.{SymbolsMet}

one_occurs : (s x : ℕ) → Occurs s (x ∷ []) → x ≡ s
one_occurs s x (inl e) = e
one_occurs s x (inr h) = absurd h

pub none_met : SymbolsMet [] 0
unfolding SymbolsMet
none_met s = ((λ h. in_none s h), (λ low h. absurd h))

one_met : (m : Message) (x set : ℕ) → SymbolsMet m set → SymbolsMet (m ++ (x ∷ [])) (bit_or set (only x))
unfolding SymbolsMet
one_met m x set met s = (
  (λ h. ⊎_elim (λ z. occurs_left s m (x ∷ []) ((met s).0 z)) (λ z. occurs_right s m (x ∷ []) (inl (in_only x s z))) (in_either set (only x) s h)),
  (λ low h. ⊎_elim
      (λ z. in_left set (only x) s ((met s).1 low z))
      (λ z. in_right set (only x) s (subst (λ y. In (only y) s) (sym (one_occurs s x z)) (only_in s low)))
      (Occurs-append s m (x ∷ []) h)),
)

pub met_more : (m : Message) (i set one new : ℕ) → i < length m → SymbolsMet (take i m) set → one ≡ only (get_or m i 0) → new ≡ bit_or set one → SymbolsMet (take (i + 1) m) new
met_more m i set one new low met e f = rw (f, e, take_more m i 0 low) (one_met (take i m) (get_or m i 0) set met)
