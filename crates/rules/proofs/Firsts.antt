-- The first of a list of rules of which something holds. Assumes nothing.
use Rattle.std.proofs.Common.{◌≡◌, ◌⊎◌, List, [], ◌∷◌, ◌++◌, Some, None, Option, sym, refl, ◌∙◌, inl, inr}
use Rattle.std.specs.Option.{option_or}
use Rattle.models.proofs.Unlike.{some-none}
use Rattle.rules.specs.Rules.{Rule, FirstIs, OneAnswer}
use Rattle.rules.specs.declared.verdict.Verdict.{Verdict}

module _ (P : Rule → Type 0) where
  -- of two lists one after the other: the first in the one, or else in the other
  pub first_there : (xs ys : List Rule) (a : Option Verdict) → (a ≡ None → ⊥) → FirstIs P xs a → FirstIs P (xs ++ ys) a
  first_there [] ys a some e = absurd (some e)
  first_there (x ∷ xs) ys a some (inl found) = inl found
  first_there (x ∷ xs) ys a some (inr (kept, more)) = inr (kept, first_there xs ys a some more)

  pub first_after : (xs ys : List Rule) (a b : Option Verdict) → a ≡ None → FirstIs P xs a → FirstIs P ys b → FirstIs P (xs ++ ys) b
  first_after [] ys a b none e f = f
  first_after (x ∷ xs) ys a b none (inl (broken, e)) f = absurd (some-none x.verdict (sym e ∙ none))
  first_after (x ∷ xs) ys a b none (inr (kept, more)) f = inr (kept, first_after xs ys a b none more f)

  pub first_or : (xs ys : List Rule) (a b : Option Verdict) → FirstIs P xs a → FirstIs P ys b → FirstIs P (xs ++ ys) (option_or a b)
  first_or xs ys None b e f = first_after xs ys None b refl e f
  first_or xs ys (Some v) b e f = first_there xs ys (Some v) (some-none v) e

  -- and the answer about two lists is that about the one, or else about the other
  pub first_split : (xs ys : List Rule) (a : Option Verdict) → FirstIs P (xs ++ ys) a
      → (FirstIs P xs a × (a ≡ None → ⊥)) ⊎ (FirstIs P xs None × FirstIs P ys a)
  first_split [] ys a h = inr (refl, h)
  first_split (x ∷ xs) ys a (inl (broken, e)) = inl (inl (broken, e), λ none. some-none x.verdict (sym e ∙ none))
  first_split (x ∷ xs) ys a (inr (kept, h)) =
      elim (first_split xs ys a h) [ inl (f, some) ↦ inl (inr (kept, f), some) | inr (none, f) ↦ inr (inr (kept, none), f) ]

  -- there is one answer only
  pub one_answer : (xs : List Rule) → OneAnswer P xs
  one_answer [] a b e f = e ∙ sym f
  one_answer (x ∷ xs) a b (inl (p, e)) (inl (q, f)) = e ∙ sym f
  one_answer (x ∷ xs) a b (inl (p, e)) (inr (q, f)) = absurd (q p)
  one_answer (x ∷ xs) a b (inr (p, e)) (inl (q, f)) = absurd (p q)
  one_answer (x ∷ xs) a b (inr (p, e)) (inr (q, f)) = one_answer xs a b e f
