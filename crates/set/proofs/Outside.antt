-- Symbols outside a set, which break the upper bound. Assumes nothing.
use Rattle.std.proofs.Common.{ℕ, true, ◌∷◌, [], Some, None, sym, refl, subst, inl, inr}
use Rattle.parts.specs.Sets.{EmptyIs, DifferenceIs}
use Rattle.parts.proofs.SymbolSets.{cases_in}
use Rattle.models.specs.Messages.{Message, Occurs}
use Rattle.models.specs.Trees.{Tree}
use Rattle.models.proofs.Occurrences.{occurs_right}
use Rattle.rules.specs.Rules.{Breaks, SomeBreaks, FirstIs}
use Rattle.summaries.specs.SymbolsOf.{SymbolsAre}
use Rattle.set.specs.Asking.{FirstOutside}
use Rattle.set.specs.Five.{upper_bound}

-- a message breaks it exactly where it has a first symbol outside
pub all_inside : (set : ℕ) (m : Message) → FirstOutside set m None → FirstIs (Breaks m) (upper_bound set ∷ []) None
all_inside set m all = inr ((λ breaks. breaks all), refl)

pub one_outside : (set : ℕ) (m : Message) (k : ℕ) → FirstOutside set m (Some k) → FirstIs (Breaks m) (upper_bound set ∷ []) (Some ((upper_bound set).verdict))
one_outside set m k (before, s, after, e, long, out, some) =
    inl ((λ all. out (all s (subst (Occurs s) (sym e) (occurs_right s before (s ∷ after) (inl refl))))), refl)

-- and no message of a tree does where its symbols are all in the set
module _ (t : Tree) (symbols set outside : ℕ) (are : SymbolsAre t symbols) (others : DifferenceIs symbols set outside) where
  pub none_outside : EmptyIs true outside → FirstIs (SomeBreaks t) (upper_bound set ∷ []) None
  none_outside none = inr (
    (λ (m, fit, breaks). breaks (λ s h. elim (cases_in set s) [
      | inl has ↦ has
      | inr out ↦ absurd (none s ((others s).1 ((are s).1 (m, fit, h), out)))
    ])),
    refl,
  )
