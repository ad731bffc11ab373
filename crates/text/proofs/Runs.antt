-- Bytes at the front that pass a test. Assumes nothing.
use Rattle.std.proofs.Common.{◌≡◌, ℕ, suc, ◌+◌, Bool, true, false, cond, List, [], ◌∷◌, refl, ap, sym, subst, ◌∙◌, arith}
use Rattle.std.specs.List.{prefix_len}
use Rattle.text.specs.Fronts.{RunIs}

run_step : (p : ℕ → Bool) (x : ℕ) (xs : List ℕ) → RunIs p xs (prefix_len p xs) → (b : Bool) → p x ≡ b → RunIs p (x ∷ xs) (cond b (1 + prefix_len p xs) 0)
run_step p x xs h true e =
    let one : suc (prefix_len p xs) ≡ 1 + prefix_len p xs = omega arith in
    subst (RunIs p (x ∷ xs)) one (omega arith, (e, h.1), h.2)
run_step p x xs h false e = (omega arith, tt, e)

pub run_is : (p : ℕ → Bool) (xs : List ℕ) → RunIs p xs (prefix_len p xs)
run_is p [] = (omega arith, tt, tt)
run_is p (x ∷ xs) = run_step p x xs (run_is p xs) (p x) refl

pub run_of : (p : ℕ → Bool) (xs ys : List ℕ) (n : ℕ) → ys ≡ xs → n ≡ prefix_len p ys → RunIs p xs n
run_of p xs ys n same count = subst (RunIs p xs) (sym (count ∙ ap (λ zs. prefix_len p zs) same)) (run_is p xs)
