-- Values that are never equal. Assumes nothing.
use Rattle.std.proofs.Common.{◌≡◌, ℕ, List, [], ◌∷◌, Some, None, Ok, Err, Result, arith}

pub err-ok : {X Y : Type 0} (x : X) (y : Y) → ◌≡◌ {A = Result X Y} (Err y) (Ok x) → ⊥
err-ok x y e = let z : ◌≡◌ {A = ℕ} 0 1 = cc in omega arith

pub some-none : {X : Type 0} (x : X) → Some x ≡ None → ⊥
some-none x e = let z : ◌≡◌ {A = ℕ} 0 1 = cc in omega arith

pub cons-nil : {X : Type 0} (x : X) (xs : List X) → x ∷ xs ≡ [] → ⊥
cons-nil x xs e = let z : ◌≡◌ {A = ℕ} 0 1 = cc in omega arith
