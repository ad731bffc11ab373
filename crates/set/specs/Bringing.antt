-- What is told of a part whose rules of co-occurrence are asked. Assumes nothing.
use Rattle.std.specs.Prelude.{[], ◌++◌, List, Decides, Option}
use Rattle.models.specs.Trees.{Tree, Fits, Formed}
use Rattle.rules.specs.Rules.{Rule, FirstIs}
use Rattle.rules.specs.declared.verdict.Verdict.{Verdict}
use Rattle.summaries.specs.SymbolsOf.{SymbolsAre}
use Rattle.set.specs.declared.families.co_occurrence.Asked.{Asked}
use Rattle.set.specs.Five.{unless, co_occurrence, co_occurrence_rules, sides_rules}

-- its symbols, whether the empty message fits, and the first of its rules of which P holds
abbrev pub AskedIs : (Rule → Type 0) → Tree → Asked → Type 0
AskedIs P t v = SymbolsAre t v.symbols.bits × Decides v.empty (Fits t []) × FirstIs P (co_occurrence_rules t) v.broken

-- a symbol of the one part brings one of the other, unless that may be empty
abbrev pub brings_rule : Asked → Asked → List Rule
brings_rule one other = unless other.empty (co_occurrence one.symbols.bits other.symbols.bits)

-- what two sides ask of each other
abbrev pub across_rules : Asked → Asked → List Rule
across_rules left right = brings_rule left right ++ brings_rule right left

-- the answer about the rules of the left, those of the right, and those of the two together
abbrev pub SidesAsked : (Rule → Type 0) → Asked → Asked → Option Verdict → Type 0
SidesAsked P left right answer =
    (l r : Tree) → Formed l → Formed r → AskedIs P l left → AskedIs P r right → FirstIs P (co_occurrence_rules l ++ (co_occurrence_rules r ++ sides_rules l r)) answer
