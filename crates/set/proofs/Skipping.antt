-- Rules asked of a part of a set's symbols, where those of the others need not be asked. Assumes nothing.
use Rattle.std.proofs.Common.{◌≡◌, ℕ, zero, suc, ◌<◌, ◌≤◌, eqb, cond, ◌⊎◌, List, [], ◌∷◌, ◌++◌, None, Option, sym, refl, ap, ◌∙◌, subst, inl, inr, arith}
use Rattle.std.proofs.lemmas.Bool.{cases_eq, cond-true, cond-false, eq-eqb, ne_eqb}
use Rattle.std.proofs.lemmas.List.{append_assoc, append-nil}
use Rattle.std.specs.Int.{bit_at}
use Rattle.parts.specs.Sets.{In, symbols_below, members}
use Rattle.models.specs.Messages.{Occurs}
use Rattle.rules.specs.Rules.{Rule, FirstIs}
use Rattle.rules.specs.declared.verdict.Verdict.{Verdict}
use Rattle.rules.proofs.Firsts.{first_there, first_after, first_split}
use Rattle.set.specs.Five.{for_each}
use Rattle.set.proofs.Lists.{listed_below}

for_each-append : (xs ys : List ℕ) (f : ℕ → List Rule) → for_each (xs ++ ys) f ≡ for_each xs f ++ for_each ys f
for_each-append [] ys f = refl
for_each-append (x ∷ xs) ys f = ap (λ rules. f x ++ rules) (for_each-append xs ys f) ∙ sym (append_assoc (f x) (for_each xs f) (for_each ys f))

-- none is broken, if that is so of each symbol's
pub none_each : (P : Rule → Type 0) (f : ℕ → List Rule) (xs : List ℕ) → ((s : ℕ) → FirstIs P (f s) None) → FirstIs P (for_each xs f) None
none_each P f [] none = refl
none_each P f (x ∷ xs) none = first_after P (f x) (for_each xs f) None None refl (none x) (none_each P f xs none)

-- f has the rules of the set's symbols, g those of the part's
module _ (P : Rule → Type 0) (f g : ℕ → List Rule) (set part : ℕ) (within : (s : ℕ) → In part s → In set s)
    (same : (s : ℕ) → In part s → (a : Option Verdict) → FirstIs P (g s) a → FirstIs P (f s) a)
    (skipped : (s : ℕ) → In set s → (In part s → ⊥) → FirstIs P (f s) None) where
  listed : ℕ → ℕ → List ℕ
  listed bits n = cond (eqb (bit_at bits n) 1) (n ∷ []) []

  passed_at : (n : ℕ) → n < 64 → (a : Option Verdict) → FirstIs P (for_each (listed part n) g) a → FirstIs P (for_each (listed set n) f) a
  unfolding listed
  passed_at n small a = go (cases_eq (bit_at set n) 1) (cases_eq (bit_at part n) 1)
    where
      go : (bit_at set n ≡ 1) ⊎ (bit_at set n ≡ 1 → ⊥) → (bit_at part n ≡ 1) ⊎ (bit_at part n ≡ 1 → ⊥)
          → FirstIs P (for_each (listed part n) g) a → FirstIs P (for_each (listed set n) f) a
      go (inl has) (inl taken) =
          rw (cond-true _ (n ∷ []) [] (eq-eqb _ 1 has), cond-true _ (n ∷ []) [] (eq-eqb _ 1 taken), append-nil (f n), append-nil (g n)) (same n (omega arith, taken) a)
      go (inl has) (inr left) =
          rw (cond-true _ (n ∷ []) [] (eq-eqb _ 1 has), cond-false _ (n ∷ []) [] (ne_eqb _ 1 left), append-nil (f n))
          (λ e. subst (FirstIs P (f n)) (sym e) (skipped n (omega arith, has) (λ h. left h.1)))
      go (inr none) (inl taken) = absurd (none (within n (omega arith, taken)).1)
      go (inr none) (inr left) = rw (cond-false _ (n ∷ []) [] (ne_eqb _ 1 none), cond-false _ (n ∷ []) [] (ne_eqb _ 1 left)) (λ e. e)

  passed_below : (n : ℕ) → n ≤ 64 → (a : Option Verdict) → FirstIs P (for_each (symbols_below n part) g) a → FirstIs P (for_each (symbols_below n set) f) a
  unfolding symbols_below listed
  passed_below zero small a h = h
  passed_below (suc n) small a h =
      rw (for_each-append (symbols_below n set) (listed set n) f)
      (elim (first_split P (for_each (symbols_below n part) g) (for_each (listed part n) g) a (rw (for_each-append (symbols_below n part) (listed part n) g) at h)) [
        | inl (found, some) ↦ first_there P (for_each (symbols_below n set) f) _ a some (passed_below n (omega arith) a found)
        | inr (none, last) ↦ first_after P (for_each (symbols_below n set) f) _ None a refl (passed_below n (omega arith) None none) (passed_at n (omega arith) a last)
      ])

  pub passed : (a : Option Verdict) → FirstIs P (for_each (members part) g) a → FirstIs P (for_each (members set) f) a
  passed = passed_below 64 (omega arith)

pub member_in : (set b : ℕ) (bs : List ℕ) → members set ≡ b ∷ bs → In set b
member_in set b bs e = let (low, bit) = listed_below set 64 b (subst (Occurs b) (sym e) (inl refl)) in (omega arith, bit)
