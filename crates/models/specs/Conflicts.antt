-- Conflict-free models, and the place of the first conflict. Assumes nothing.
use Rattle.std.specs.Prelude.{◌≡◌, ℕ, zero, suc, ◌+◌, ◌<◌, Bool, true, false, cond, not, ◌||◌, List, [], ◌∷◌, length, take, Some, None, Option, ◌==◌, slice_index_or}
use Rattle.models.specs.Trees.{Tree, Stands}
use Rattle.models.specs.Trees.Tree.{empty, symbol, choice, sequence, interleave, count, nonempty}
use Rattle.models.specs.Written.{subtrees}

-- no symbol stands in both
abbrev pub Apart : Tree → Tree → Type 0
Apart l r = (s : ℕ) → Stands l s → Stands r s → ⊥

abbrev pub is_symbol : Tree → Bool
is_symbol empty = false
is_symbol (symbol s) = true
is_symbol (choice l r) = false
is_symbol (sequence l r) = false
is_symbol (interleave l r) = false
is_symbol (count t low high) = false
is_symbol (nonempty t) = false

-- each count takes a symbol part, and no symbol stands in two parts
abbrev pub ConflictFree : Tree → Type 0
ConflictFree empty = Unit {0}
ConflictFree (symbol s) = Unit {0}
ConflictFree (choice l r) = ConflictFree l × ConflictFree r × Apart l r
ConflictFree (sequence l r) = ConflictFree l × ConflictFree r × Apart l r
ConflictFree (interleave l r) = ConflictFree l × ConflictFree r × Apart l r
ConflictFree (count t low high) = is_symbol t ≡ true
ConflictFree (nonempty t) = ConflictFree t

-- it is the part of the symbol s
abbrev pub is_the : ℕ → Tree → Bool
is_the s empty = false
is_the s (symbol x) = x == s
is_the s (choice l r) = false
is_the s (sequence l r) = false
is_the s (interleave l r) = false
is_the s (count t low high) = false
is_the s (nonempty t) = false

-- the symbol s is met among these parts
abbrev pub met : ℕ → List Tree → Bool
met s [] = false
met s (t ∷ ts) = is_the s t || met s ts

-- a part that is a count of something else than a symbol part, or a symbol already met before it
abbrev pub clashes : List Tree → Tree → Bool
clashes before empty = false
clashes before (symbol s) = met s before
clashes before (choice l r) = false
clashes before (sequence l r) = false
clashes before (interleave l r) = false
clashes before (count t low high) = not (is_symbol t)
clashes before (nonempty t) = false

abbrev pub clash_at : List Tree → ℕ → Bool
clash_at ts k = clashes (take k ts) (slice_index_or ts k empty)

-- the first of the n places from k on at which the test holds
abbrev pub first_place : ℕ → ℕ → (ℕ → Bool) → Option ℕ
first_place zero k test = None
first_place (suc n) k test = cond (test k) (Some k) (first_place n (k + 1) test)

-- the place of the first conflict
abbrev pub first_conflict_of : Tree → Option ℕ
first_conflict_of t = first_place (length (subtrees t)) 0 (clash_at (subtrees t))

-- the part at place k is a conflict
abbrev pub ConflictAt : Tree → ℕ → Type 0
ConflictAt t k = (k < length (subtrees t)) × (clash_at (subtrees t) k ≡ true)

-- the place is that of a conflict, and there is none before it
abbrev pub FirstAt : Tree → ℕ → Type 0
FirstAt t k = ConflictAt t k × ((j : ℕ) → j < k → ConflictAt t j → ⊥)

abbrev pub FirstExactly : Type 0
FirstExactly = (t : Tree) (k : ℕ) → (first_conflict_of t ≡ Some k → FirstAt t k) × (FirstAt t k → first_conflict_of t ≡ Some k)

-- there is none exactly in a conflict-free model
abbrev pub NoneExactly : Type 0
NoneExactly = (t : Tree) → (first_conflict_of t ≡ None → ConflictFree t) × (ConflictFree t → first_conflict_of t ≡ None)
