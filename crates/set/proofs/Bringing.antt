-- What the sides of a sequence or an interleave ask of each other. Assumes nothing.
use Rattle.std.proofs.Common.{◌≡◌, ◌^◌, ◌<◌, ◌++◌, None, Option, refl, subst}
use Rattle.std.proofs.lemmas.List.{append_assoc}
use Rattle.std.specs.Option.{option_or}
use Rattle.models.specs.Trees.{Tree, Formed}
use Rattle.rules.specs.Rules.{Rule, FirstIs}
use Rattle.rules.specs.declared.verdict.Verdict.{Verdict}
use Rattle.rules.proofs.Firsts.{first_there, first_after, first_or}
use Rattle.summaries.proofs.Carried.{standing_are}
use Rattle.set.specs.declared.families.co_occurrence.Asked.{Asked}
use Rattle.set.specs.Bringing.{AskedIs, across_rules}
use Rattle.set.specs.Five.{co_occurrence_rules, sides_rules}
use Rattle.set.proofs.Holding.{takes_empty_is}
use Rattle.set.proofs.Sets.{standing_set}

module _ (P : Rule → Type 0) (l r : Tree) (f : Formed l) (g : Formed r) (left right : Asked) (small_left : left.symbols.bits < 2 ^ 64) (small_right : right.symbols.bits < 2 ^ 64)
    (told_left : AskedIs P l left) (told_right : AskedIs P r right) where
  -- by the values that tell of the sides
  sides_told : across_rules left right ≡ sides_rules l r
  sides_told =
      let one = standing_set l left.symbols.bits f small_left (standing_are l left.symbols.bits f told_left.0) in
      let other = standing_set r right.symbols.bits g small_right (standing_are r right.symbols.bits g told_right.0) in
      rw (one, other, takes_empty_is l left.empty f told_left.1, takes_empty_is r right.empty g told_right.1) refl

  -- a rule of one of the sides is broken
  pub side_broken : (option_or left.broken right.broken ≡ None → ⊥)
      → FirstIs P (co_occurrence_rules l ++ (co_occurrence_rules r ++ sides_rules l r)) (option_or left.broken right.broken)
  side_broken some =
      let broken = option_or left.broken right.broken in
      subst (λ rules. FirstIs P rules broken) (append_assoc (co_occurrence_rules l) (co_occurrence_rules r) (sides_rules l r))
      (first_there P (co_occurrence_rules l ++ co_occurrence_rules r) (sides_rules l r) broken some (first_or P _ _ left.broken right.broken told_left.2 told_right.2))

  -- or none is
  pub sides_asked : option_or left.broken right.broken ≡ None → (answer : Option Verdict) → FirstIs P (across_rules left right) answer
      → FirstIs P (co_occurrence_rules l ++ (co_occurrence_rules r ++ sides_rules l r)) answer
  sides_asked none answer asked =
      subst (λ rules. FirstIs P rules answer) (append_assoc (co_occurrence_rules l) (co_occurrence_rules r) (sides_rules l r))
      (first_after P (co_occurrence_rules l ++ co_occurrence_rules r) (sides_rules l r) (option_or left.broken right.broken) answer none
      (first_or P _ _ left.broken right.broken told_left.2 told_right.2) (subst (λ rules. FirstIs P rules answer) sides_told asked))
