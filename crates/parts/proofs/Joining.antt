-- One item more of a list that is printed with something between two items. Assumes nothing.
use Rattle.std.proofs.Common.{◌≡◌, ℕ, List, [], ◌∷◌, ◌++◌, sym, refl, append-nil}
use Rattle.std.specs.List.{join_by}
use Rattle.std.proofs.lemmas.List.{flat_map_more}

-- what stands before the next item
abbrev pub gap_after : {X : Type 0} → List ℕ → List X → List ℕ
gap_after sep [] = []
gap_after sep (x ∷ xs) = sep

module _ {X : Type 0} (f : X → List ℕ) (sep : List ℕ) where
  pub joined_more : (xs : List X) (x : X) → join_by f sep xs ++ (gap_after sep xs ++ f x) ≡ join_by f sep (xs ++ (x ∷ []))
  joined_more [] x = sym (append-nil (f x))
  joined_more (y ∷ xs) x = flat_map_more (λ z. sep ++ f z) (f y) xs x

pub gap_more : {X : Type 0} (sep : List ℕ) (xs : List X) (x : X) → sep ≡ gap_after sep (xs ++ (x ∷ []))
gap_more sep [] x = refl
gap_more sep (y ∷ xs) x = refl
