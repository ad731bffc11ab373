-- The first rule of a board that is broken is that of the smallest symbol not shown. Assumes nothing.
use Rattle.std.proofs.Common.{◌≡◌, ℕ, zero, suc, ◌+◌, ◌<◌, ◌≤◌, List, Some, None, Option, map, refl, subst, inl, inr, arith}
use Rattle.std.proofs.lemmas.Bool.{cases_eq, cond-true, cond-false, eq-eqb, ne_eqb}
use Rattle.std.proofs.lemmas.Nat.Bits.{bit_at-lt}
use Rattle.std.specs.Int.{bit_at}
use Rattle.std.specs.List.{filter, range_with_len}
use Rattle.parts.specs.Sets.{In}
use Rattle.parts.proofs.SymbolSets.{cases_in}
use Rattle.models.specs.Messages.{Message}
use Rattle.models.specs.Trees.{Tree}
use Rattle.rules.specs.Rules.{Rule, Breaks, SomeBreaks, FirstIs}
use Rattle.rules.specs.declared.verdict.Verdict.{Verdict}
use Rattle.summaries.specs.SymbolsOf.{SymbolsAre}
use Rattle.makers.specs.Boards.{unshown, is_out, board_rules}
use Rattle.makers.specs.Found.{SymbolsMet, FirstUnshown}

-- P holds of the rules about the symbols of the set, and of no others
abbrev Told : (Rule → Type 0) → ℕ → Type 0
Told P set = (s : ℕ) → s ≤ 63 → (In set s → P (unshown s)) × (P (unshown s) → In set s)

module _ (P : Rule → Type 0) (shown set : ℕ) (told : Told P set) where
  abbrev rules_from : ℕ → ℕ → List Rule
  rules_from s n = map unshown (filter (is_out shown) (range_with_len s n))

  -- a symbol of the set that is not shown has the first broken rule; any other symbol is passed over
  here : (s n : ℕ) → In set s → (In shown s → ⊥) → FirstIs P (rules_from s (suc n)) (Some ((unshown s).verdict))
  here s n has out =
      let small = bit_at-lt shown s in
      let low = has.0 in
      let none : bit_at shown s ≡ 0 = elim (cases_eq (bit_at shown s) 1) [ inl e ↦ absurd (out (low, e)) | inr ne ↦ omega arith ] in
      rw (cond-true _ _ _ (eq-eqb _ 0 none)) (inl ((told s low).0 has, refl))

  past : (s n : ℕ) (a : Option Verdict) → s ≤ 63 → (In set s → In shown s) → FirstIs P (rules_from (s + 1) n) a → FirstIs P (rules_from s (suc n)) a
  past s n a low all rest =
      elim (cases_eq (bit_at shown s) 0) [
        | inl none ↦ rw (cond-true _ _ _ (eq-eqb _ 0 none)) (inr ((λ p. let bit = (all ((told s low).1 p)).1 in omega arith), rest))
        | inr some ↦ rw (cond-false _ _ _ (ne_eqb _ 0 some)) rest
      ]

  none_from : (n s : ℕ) → s + n ≤ 64 → ((i : ℕ) → In set i → In shown i) → FirstIs P (rules_from s n) None
  none_from zero s small all = refl
  none_from (suc n) s small all = past s n None (omega arith) (all s) (none_from n (s + 1) (omega arith) all)

  module _ (x : ℕ) (has : In set x) (out : In shown x → ⊥) (least : (i : ℕ) → i < x → In set i → In shown i) where
    one_from : (n s : ℕ) → s ≤ x → x < s + n → FirstIs P (rules_from s n) (Some ((unshown x).verdict))
    one_from zero s from below = absurd (omega arith)
    one_from (suc n) s from below =
        elim (cases_eq x s) [
          | inl e ↦ subst (λ y. FirstIs P (rules_from y (suc n)) (Some ((unshown x).verdict))) e (here x n has out)
          | inr ne ↦ past s n _ (let low = has.0 in omega arith) (least s (omega arith)) (one_from n (s + 1) (omega arith) (omega arith))
        ]

  pub first_told : (a : Option Verdict) → FirstUnshown shown set a → FirstIs P (board_rules shown) a
  unfolding board_rules FirstUnshown
  first_told None all = none_from 64 0 (omega arith) all
  first_told (Some v) (x, e, has, out, least) = rw e (one_from x has out least 64 0 (omega arith) (let low = has.0 in omega arith))

-- a set that cannot be shown to lack a symbol has it
in_set : (set s : ℕ) → ((In set s → ⊥) → ⊥) → In set s
in_set set s h = elim (cases_in set s) [ inl has ↦ has | inr fails ↦ absurd (h fails) ]

-- so it is with the symbols of a message, and with those that a model's messages have
pub message_first : (shown set : ℕ) (m : Message) (a : Option Verdict) → SymbolsMet m set → FirstUnshown shown set a → FirstIs (Breaks m) (board_rules shown) a
unfolding SymbolsMet
message_first shown set m a met =
    first_told (Breaks m) shown set (λ s low. (
      (λ h kept. kept ((met s).0 h)),
      (λ breaks. in_set set s (λ out. breaks (λ h. out ((met s).1 low h)))),
    )) a

pub model_first : (shown set : ℕ) (t : Tree) (a : Option Verdict) → SymbolsAre t set → FirstUnshown shown set a → FirstIs (SomeBreaks t) (board_rules shown) a
model_first shown set t a are =
    first_told (SomeBreaks t) shown set (λ s low. (
      (λ h. let (m, fit, occurs) = (are s).0 h in (m, fit, λ kept. kept occurs)),
      (λ (m, fit, breaks). in_set set s (λ out. breaks (λ h. out ((are s).1 (m, fit, h))))),
    )) a
