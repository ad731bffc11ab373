-- The set of the symbols of a message, as a number. Assumes nothing.
use Rattle.std.proofs.Common.{◌≡◌, ℕ, ◌^◌, ◌<◌, [], ◌∷◌, ◌++◌, sym, inl, inr, ⊎_elim, subst, arith}
use lib.Bits.{bit_or}
use Rattle.std.proofs.lemmas.Nat.{or_lt}
use Rattle.parts.specs.Sets.{In, only}
use Rattle.parts.proofs.SymbolSets.{in_left, in_right, in_either, in_only, only_in, in_none, same_set}
use Rattle.models.specs.Messages.{Message}
use Rattle.set.specs.Asking.{met_in}
use Rattle.set.proofs.Sofar.{SymbolsMet, met_more}
use Rattle.set.proofs.Sets.{only_small}

pub met_in_is : (m : Message) → SymbolsMet m (met_in m)
met_in_is [] s = ((λ h. in_none s h), (λ low h. absurd h))
met_in_is (x ∷ m) s = (
  (λ h. ⊎_elim (λ z. inl (in_only x s z)) (λ z. inr ((met_in_is m s).0 z)) (in_either (only x) (met_in m) s h)),
  (λ low h. ⊎_elim
      (λ e. in_left (only x) (met_in m) s (subst (λ y. In (only y) s) (sym e) (only_in s low)))
      (λ z. in_right (only x) (met_in m) s ((met_in_is m s).1 low z))
      h),
)

met_small : (m : Message) → met_in m < 2 ^ 64
met_small [] = omega arith
met_small (x ∷ m) = or_lt 64 (only x) (met_in m) (only_small x) (met_small m)

-- a set of the symbols that are met is that set
pub met_set : (m : Message) (set : ℕ) → set < 2 ^ 64 → SymbolsMet m set → set ≡ met_in m
met_set m set small are = same_set set (met_in m) small (met_small m) (λ s. (
  (λ h. (met_in_is m s).1 h.0 ((are s).0 h)),
  (λ h. (are s).1 h.0 ((met_in_is m s).0 h)),
))

pub met_in_more : (m : Message) (x : ℕ) → met_in (m ++ (x ∷ [])) ≡ bit_or (met_in m) (only x)
met_in_more m x =
    sym (met_set (m ++ (x ∷ [])) (bit_or (met_in m) (only x)) (or_lt 64 (met_in m) (only x) (met_small m) (only_small x)) (met_more m x (met_in m) (met_in_is m)))
