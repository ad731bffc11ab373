-- Rules asked one symbol after another, down a set. Assumes nothing.
use Rattle.std.proofs.Common.{◌≡◌, ℕ, ◌≤◌, Bool, false, Decides, List, [], ◌∷◌, Some, None, Option, sym, refl, subst, inr}
use lib.Bits.{bit_and}
use Rattle.std.proofs.lemmas.Bool.{both_ways}
use Rattle.parts.specs.Sets.{In, members}
use Rattle.parts.proofs.SymbolSets.{in_both, both_in}
use Rattle.rules.specs.Rules.{Rule, FirstIs}
use Rattle.rules.specs.declared.verdict.Verdict.{Verdict}
use Rattle.rules.proofs.Firsts.{first_there, first_after}
use Rattle.models.proofs.Unlike.{some-none}
use Rattle.set.specs.Five.{for_each}
use Rattle.set.proofs.Skipping.{passed}

-- the rules of the symbols that are left are all that are left to ask
abbrev pub Left : (Rule → Type 0) → (ℕ → List Rule) → ℕ → ℕ → Type 0
Left P rules all rest = (answer : Option Verdict) → FirstIs P (for_each (members rest) rules) answer → FirstIs P (for_each (members all) rules) answer

module _ (P : Rule → Type 0) where
  pub kept_rule : (rule : Rule) (b : Bool) → Decides b (P rule) → b ≡ false → FirstIs P (rule ∷ []) None
  kept_rule rule b d e = inr ((λ p. both_ways b e (d.1 p)), refl)

  -- at the start, the rules of those symbols that a subject has, if those of the others are not broken
  pub left_start : (rules : ℕ → List Rule) (all own subject part : ℕ) → own ≡ all → part ≡ bit_and own subject
      → ((s : ℕ) → s ≤ 63 → (In subject s → ⊥) → FirstIs P (rules s) None) → Left P rules all part
  left_start rules all own subject part same both others = passed P rules rules all part
      (λ s h. subst (λ n. In n s) same (in_both own subject s (subst (λ n. In n s) both h)).0)
      (λ s h a first. first)
      (λ s h out. others s h.0 (λ has. out (subst (λ n. In n s) (sym both) (both_in own subject s (subst (λ n. In n s) (sym same) h) has))))

  module _ (rules : ℕ → List Rule) (all old new s : ℕ) (left : Left P rules all old) (taken : members old ≡ s ∷ members new) where
    pub left_found : (v : Verdict) → FirstIs P (rules s) (Some v) → FirstIs P (for_each (members all) rules) (Some v)
    left_found v found = left (Some v) (rw taken (first_there P (rules s) (for_each (members new) rules) (Some v) (some-none v) found))

    pub left_more : FirstIs P (rules s) None → Left P rules all new
    left_more none answer rest = left answer (rw taken (first_after P (rules s) (for_each (members new) rules) None answer refl none rest))
