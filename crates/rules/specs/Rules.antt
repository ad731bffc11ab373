-- Rules, when one is broken, and the first of a list of which something holds. Assumes nothing.
use Rattle.std.specs.Prelude.{◌≡◌, ◌⊎◌, List, [], ◌∷◌, Some, None, Option}
use Rattle.models.specs.Messages.{Message}
use Rattle.models.specs.Trees.{Tree, Fits}
use Rattle.rules.specs.declared.verdict.Verdict.{Verdict}

-- a verdict and the messages that keep the rule; every other message breaks it
pub record Rule : Type 1 where
  pub verdict : Verdict
  pub keeps : Message → Type 0

-- the message keeps each of them
abbrev pub KeepsAll : List Rule → Message → Type 0
KeepsAll [] m = Unit {0}
KeepsAll (rule ∷ rules) m = rule.keeps m × KeepsAll rules m

-- the message breaks the rule
abbrev pub Breaks : Message → Rule → Type 0
Breaks m rule = rule.keeps m → ⊥

-- some message that fits the tree breaks the rule
abbrev pub SomeBreaks : Tree → Rule → Type 0
SomeBreaks t rule = (m : Message) × Fits t m × Breaks m rule

-- the answer is the verdict of the first rule of which P holds, or none where it holds of none
abbrev pub FirstIs : (Rule → Type 0) → List Rule → Option Verdict → Type 0
FirstIs P [] answer = answer ≡ None
FirstIs P (rule ∷ rules) answer = (P rule × (answer ≡ Some rule.verdict)) ⊎ ((P rule → ⊥) × FirstIs P rules answer)

-- there is no other answer
abbrev pub OneAnswer : (Rule → Type 0) → List Rule → Type 0
OneAnswer P rules = (a b : Option Verdict) → FirstIs P rules a → FirstIs P rules b → a ≡ b

-- so a list fixes what is answered about every message and about every model
abbrev pub AnswersFixed : List Rule → Type 0
AnswersFixed rules = ((m : Message) → OneAnswer (Breaks m) rules) × ((t : Tree) → OneAnswer (SomeBreaks t) rules)
