-- The list of a family that is one of two. Assumes nothing.
use Rattle.std.specs.Prelude.{List}
use Rattle.either.specs.declared.Either.{Either}
use Rattle.either.specs.declared.Either.TheVariants.{Left, Right}
use Rattle.rules.specs.Rules.{Rule}

-- that of the family which is there, by what the rules of each are
abbrev pub rules_of_either : {F G : Type 0} → (F → List Rule) → (G → List Rule) → Either F G → List Rule
rules_of_either left right (Left family) = left family
rules_of_either left right (Right family) = right family
