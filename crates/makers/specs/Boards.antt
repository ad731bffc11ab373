-- The rules of a board that can show only some symbols. Assumes nothing.
use Rattle.std.specs.Prelude.{ℕ, ◌/◌, ◌%◌, ◌^◌, Bool, List, map, filter, ◌==◌}
use Rattle.std.specs.List.{range_with_len}
use Rattle.parts.specs.Sets.{only}
use Rattle.models.specs.Messages.{Occurs}
use Rattle.rules.specs.Rules.{Rule}

-- the symbol s does not occur in the message
abbrev pub unshown : ℕ → Rule
unshown s = record {
  verdict = record { family = 7; first = record { bits = only s }; second = record { bits = 0 }; low = 0; high = 0 };
  keeps = λ m. Occurs s m → ⊥;
}

-- whether the symbol s, up to 63, is not in the set
abbrev pub is_out : ℕ → ℕ → Bool
is_out set s = (set / 2 ^ s) % 2 == 0

-- one rule for each symbol from 0 to 63 that is not shown, ascending
unfoldable pub board_rules : ℕ → List Rule
board_rules shown = map unshown (filter (is_out shown) (range_with_len 0 64))
