-- Sets of symbols as 64-bit numbers, and how they are printed. Assumes nothing.
use Rattle.std.specs.Prelude.{◌≡◌, ℕ, zero, suc, ◌/◌, ◌%◌, ◌^◌, ◌≤◌, Bool, true, false, cond, List, [], ◌∷◌, ◌++◌, Some, None, Option, codes, decimal, ◌==◌, nat_le}
use Rattle.std.specs.List.{join_by}

-- the bit worth 2^s stands for the symbol s, and a symbol above 63 belongs to no set
abbrev pub In : ℕ → ℕ → Type 0
In set s = (s ≤ 63) × ((set / 2 ^ s) % 2 ≡ 1)

-- the set of the one symbol s, empty where that is above 63
abbrev pub only : ℕ → ℕ
only s = cond (nat_le s 63) (2 ^ s) 0

-- the symbols below n that are in the set, ascending
unfoldable pub symbols_below : ℕ → ℕ → List ℕ
symbols_below zero set = []
symbols_below (suc n) set = symbols_below n set ++ cond ((set / 2 ^ n) % 2 == 1) (n ∷ []) []

-- whether the set has no symbol; where not, one that it has
abbrev pub EmptyIs : Bool → ℕ → Type 0
EmptyIs true set = (s : ℕ) → In set s → ⊥
EmptyIs false set = (s : ℕ) × In set s

-- the third has the symbols of the first that the second has not, and no others
abbrev pub DifferenceIs : ℕ → ℕ → ℕ → Type 0
DifferenceIs a b c = (s : ℕ) → (In c s → In a s × (In b s → ⊥)) × (In a s × (In b s → ⊥) → In c s)

-- the symbols of a set, ascending
abbrev pub members : ℕ → List ℕ
members set = symbols_below 64 set

-- the smallest symbol is taken out, if there is one
abbrev pub Taken : ℕ → Option ℕ → ℕ → Type 0
Taken old None new = (members old ≡ []) × (new ≡ old)
Taken old (Some s) new = members old ≡ s ∷ members new

-- what is printed of a set: its symbols in braces, with commas between them
abbrev pub listed : ℕ → List ℕ
listed set = codes "{" ++ (join_by decimal (codes ",") (members set) ++ codes "}")
