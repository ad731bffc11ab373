-- What is kept of names, and what calls find and change. Assumes nothing.
use Rattle.std.specs.Prelude.{◌≡◌, ◌≢◌, ℕ, ◌<◌, ◌≤◌, true, false, List, [], ◌∷◌, All, AllPairs, length, Some, None, Ok, Err, Option, Result}
use Rattle.names.specs.Numbering.{symbol_in, is_known, known_after}
use Rattle.names.specs.declared.names.NameFault.{NameFault}
use Rattle.names.specs.declared.names.NameFault.TheVariants.{TooLong, TooMany}

-- at most 64 names, each of at most 32 bytes, no two of them the same
pub record AreKept (ks : List (List ℕ)) : Type 0 where
  pub few : length ks ≤ 64
  pub short : All (λ n. length n ≤ 32) ks
  pub different : AllPairs (λ m n. m ≢ n) ks

-- the name is known, and this is its symbol
pub record HasSymbol (ks : List (List ℕ)) (n : List ℕ) (s : ℕ) : Type 0 where
  pub known : is_known ks n ≡ true
  pub symbol : symbol_in ks n ≡ s

-- the symbol of a name, if it is known
abbrev pub Found : List (List ℕ) → List ℕ → Option ℕ → Type 0
Found ks n None = is_known ks n ≡ false
Found ks n (Some s) = HasSymbol ks n s × (s < length ks)

-- a name of at most 32 bytes is known from now on, where it was already or there is room; nothing is altered otherwise
abbrev pub Met : List (List ℕ) → List ℕ → Result ℕ NameFault → List (List ℕ) → Type 0
Met old n (Ok s) new = (length n ≤ 32) × (length new ≤ 64) × (new ≡ known_after old (n ∷ [])) × HasSymbol new n s
Met old n (Err TooLong) new = (32 < length n) × (new ≡ old)
Met old n (Err TooMany) new = (length n ≤ 32) × (is_known old n ≡ false) × (length old ≡ 64) × (new ≡ old)
