-- The words of a text, one after another. Assumes nothing.
use Rattle.std.specs.Prelude.{◌≡◌, ℕ, ◌<◌, List, [], ◌∷◌, ◌++◌, length, Some, None, Option}
use Rattle.std.specs.Borrow.{Bor}
use Rattle.std.specs.Char.{is_whitespace, is_not_whitespace}
use Rattle.std.specs.Str.{NoCharPasses, EmptyOrStartsWithPassing}

-- bs is white space, the word w, and rest, which is empty or begins with white space
pub record First (bs w rest : List ℕ) : Type 0 where
  pub gap : List ℕ
  pub cut : bs ≡ gap ++ (w ++ rest)
  pub some : 0 < length w
  pub blank : NoCharPasses is_not_whitespace gap
  pub solid : NoCharPasses is_whitespace w
  pub ends : (more : List ℕ) × EmptyOrStartsWithPassing is_whitespace rest more

-- the first words of bs are ws, and rest follows them
abbrev pub Begins : List ℕ → List (List ℕ) → List ℕ → Type 0
Begins bs [] rest = bs ≡ rest
Begins bs (w ∷ ws) rest = (mid : List ℕ) × First bs w mid × Begins mid ws rest

-- bs has no word
abbrev pub NoWord : List ℕ → Type 0
NoWord bs = NoCharPasses is_not_whitespace bs

-- w is the first word of bs, and rest follows it; or bs has no word
abbrev pub Next : List ℕ → Option (Bor (List ℕ)) → List ℕ → Type 0
Next bs (Some w) rest = First bs w.now rest
Next bs None rest = NoWord bs × (rest ≡ bs)

-- the first words of bs are ws, and w is next
abbrev pub Comes : List ℕ → List (List ℕ) → Option (Bor (List ℕ)) → Type 0
Comes bs ws w = (mid : List ℕ) × (rest : List ℕ) × Begins bs ws mid × Next mid w rest
