-- The rule of a pay-out machine that cannot take an empty message. Assumes nothing.
use Rattle.std.specs.Prelude.{List, [], ◌∷◌, ◌≢◌}
use Rattle.rules.specs.Rules.{Rule}

-- the message is not empty
abbrev pub not_empty : Rule
not_empty = record {
  verdict = record { family = 8; first = record { bits = 0 }; second = record { bits = 0 }; low = 0; high = 0 };
  keeps = λ m. m ≢ [];
}

-- its one rule
abbrev pub machine_rules : List Rule
machine_rules = not_empty ∷ []
