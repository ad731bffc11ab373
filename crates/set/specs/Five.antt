-- The five families of a conflict-free model: what their rules are, and in which order they stand. Assumes nothing.
use Rattle.std.specs.Prelude.{ℕ, Bool, true, false, List, [], ◌∷◌, ◌++◌}
use Rattle.parts.specs.Sets.{In, only, members}
use Rattle.parts.specs.declared.part.Repeats.{Repeats}
use Rattle.models.specs.Messages.{Occurs, HasOneOf, occurrences, After}
use Rattle.models.specs.Trees.{Tree, Between}
use Rattle.models.specs.Trees.Tree.{empty, symbol, choice, sequence, interleave, count, nonempty}
use Rattle.rules.specs.Rules.{Rule}
use Rattle.rules.specs.declared.verdict.Verdict.{Verdict}
use Rattle.set.specs.Holding.{symbols_in, takes_empty}
use Rattle.set.specs.Bounded.{bounds_in}
use Rattle.set.specs.Precedence.{ordered}

-- a verdict of a family, with its two sets and its two numbers
abbrev pub verdict : ℕ → ℕ → ℕ → ℕ → ℕ → Verdict
verdict family first second low high =
    record { family = family; first = record { bits = first }; second = record { bits = second }; low = low; high = high }

-- the rules of the symbols of a set, ascending
abbrev pub for_each : List ℕ → (ℕ → List Rule) → List Rule
for_each [] rules = []
for_each (s ∷ ss) rules = rules s ++ for_each ss rules

-- the symbols of a tree, ascending
abbrev pub ascending : Tree → List ℕ
ascending t = members (symbols_in t)

-- one rule where the test says no
abbrev pub unless : Bool → Rule → List Rule
unless true rule = []
unless false rule = rule ∷ []

-- one rule where the test says yes
abbrev pub when : Bool → Rule → List Rule
when true rule = rule ∷ []
when false rule = []

-- 1: every symbol of the message is in the set
abbrev pub upper_bound : ℕ → Rule
upper_bound set = record { verdict = verdict 1 set 0 0 0; keeps = λ m. (s : ℕ) → Occurs s m → In set s }

abbrev pub upper_bound_rules : Tree → List Rule
upper_bound_rules t = upper_bound (symbols_in t) ∷ []

-- 2: some symbol of the message is in the set
abbrev pub lower_bound : ℕ → Rule
lower_bound set = record { verdict = verdict 2 set 0 0 0; keeps = HasOneOf set }

abbrev pub lower_bound_rules : Tree → List Rule
lower_bound_rules t = unless (takes_empty t) (lower_bound (symbols_in t))

-- 3: if the symbol occurs, then as often as the bounds say
abbrev pub cardinality : ℕ → Repeats → Rule
cardinality s bounds = record {
  verdict = verdict 3 (only s) 0 bounds.low bounds.high;
  keeps = λ m. Occurs s m → Between bounds.low bounds.high (occurrences s m);
}

abbrev pub cardinality_rules : Tree → List Rule
cardinality_rules t = for_each (ascending t) (λ s. cardinality s (bounds_in s t) ∷ [])

-- 4: a symbol of the first set brings one of the second
abbrev pub co_occurrence : ℕ → ℕ → Rule
co_occurrence first second = record { verdict = verdict 4 first second 0 0; keeps = λ m. HasOneOf first m → HasOneOf second m }

-- what the sides of a sequence or an interleave ask of each other
abbrev pub sides_rules : Tree → Tree → List Rule
sides_rules l r =
    unless (takes_empty r) (co_occurrence (symbols_in l) (symbols_in r)) ++ unless (takes_empty l) (co_occurrence (symbols_in r) (symbols_in l))

-- in the order of the sheet: what the left holds, what the right holds, the part itself
abbrev pub co_occurrence_rules : Tree → List Rule
co_occurrence_rules empty = []
co_occurrence_rules (symbol s) = []
co_occurrence_rules (choice l r) = co_occurrence_rules l ++ co_occurrence_rules r
co_occurrence_rules (sequence l r) = co_occurrence_rules l ++ (co_occurrence_rules r ++ sides_rules l r)
co_occurrence_rules (interleave l r) = co_occurrence_rules l ++ (co_occurrence_rules r ++ sides_rules l r)
co_occurrence_rules (count t low high) = co_occurrence_rules t
co_occurrence_rules (nonempty t) = co_occurrence_rules t

-- 5: no a comes after a b
abbrev pub order : ℕ → ℕ → Rule
order a b = record { verdict = verdict 5 (only a) (only b) 0 0; keeps = λ m. After a b m → ⊥ }

-- the rules of the pairs that begin with a
abbrev pub order_rules_from : ℕ → Tree → List Rule
order_rules_from a t = for_each (ascending t) (λ b. when (ordered a b t) (order a b))

abbrev pub order_rules : Tree → List Rule
order_rules t = for_each (ascending t) (λ a. order_rules_from a t)

-- the lists of the five families, one after another
abbrev pub five : Tree → List Rule
five t = upper_bound_rules t ++ (lower_bound_rules t ++ (cardinality_rules t ++ (co_occurrence_rules t ++ order_rules t)))
