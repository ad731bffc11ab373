-- The set of a tree's symbols, as a number. Assumes nothing.
use Rattle.std.proofs.Common.{◌≡◌, ℕ, ◌^◌, ◌<◌, ◌≤◌, ◌⊎◌, leb, inl, inr, arith}
use Rattle.std.proofs.lemmas.Bool.{cases_lt, cond-true, cond-false, le-leb, lt-leb}
use Rattle.std.proofs.lemmas.Nat.{or_lt, pow_below}
use Rattle.parts.specs.Sets.{only}
use Rattle.parts.proofs.SymbolSets.{same_set}
use Rattle.models.specs.declared.model.Model.{Model}
use Rattle.models.specs.Checked.{tree_of}
use Rattle.models.specs.Trees.{Tree, Formed}
use Rattle.models.specs.Trees.Tree.{empty, symbol, choice, sequence, interleave, count, nonempty}
use Rattle.summaries.specs.SymbolsOf.{StandingAre}
use Rattle.models.proofs.Written.{model_sheet}
use Rattle.set.specs.Holding.{symbols_in}
use Rattle.set.proofs.Holding.{symbols_stand}

only_cases : (s : ℕ) → (63 < s) ⊎ (s ≤ 63) → only s < 2 ^ 64
only_cases s (inl high) = rw (cond-false (leb s 63) (2 ^ s) 0 (lt-leb s 63 high)) (omega arith)
only_cases s (inr low) = rw (cond-true (leb s 63) (2 ^ s) 0 (le-leb s 63 low)) (pow_below s 64 (omega arith))

pub only_small : (s : ℕ) → only s < 2 ^ 64
only_small s = only_cases s (cases_lt 63 s)

-- the tree of a checked model is well formed
pub formed_of : (m : Model) → Formed (tree_of m)
formed_of m = (model_sheet m.parts.now m.checked).1

pub symbols_small : (t : Tree) → symbols_in t < 2 ^ 64
symbols_small empty = omega arith
symbols_small (symbol s) = only_small s
symbols_small (choice l r) = or_lt 64 (symbols_in l) (symbols_in r) (symbols_small l) (symbols_small r)
symbols_small (sequence l r) = or_lt 64 (symbols_in l) (symbols_in r) (symbols_small l) (symbols_small r)
symbols_small (interleave l r) = or_lt 64 (symbols_in l) (symbols_in r) (symbols_small l) (symbols_small r)
symbols_small (count t low high) = symbols_small t
symbols_small (nonempty t) = symbols_small t

-- a set of the symbols that stand in a tree is the tree's set
pub standing_set : (t : Tree) (set : ℕ) → Formed t → set < 2 ^ 64 → StandingAre t set → set ≡ symbols_in t
standing_set t set f small are = same_set set (symbols_in t) small (symbols_small t) (λ s. (
  (λ h. (symbols_stand t f s).1 ((are s).0 h)),
  (λ h. (are s).1 ((symbols_stand t f s).0 h)),
))
