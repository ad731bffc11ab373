-- The parts of one declaration as they are made: the first 256, and whether there are more. Assumes nothing.
use Rattle.std.specs.Prelude.{◌≡◌, ℕ, ◌<◌, ◌≤◌, Bool, List, [], ◌∷◌, ◌++◌, length, take, Some, None, Option, nat_lt}
use Rattle.std.specs.Borrow.{Bor}
use Rattle.parts.specs.declared.part.Part.{Part}
use Rattle.parts.specs.Parts.{blank}
use Rattle.text.specs.declared.mark.Mark.{Mark}
use Rattle.text.specs.declared.mark.Mark.TheVariants as mark
use Rattle.text.specs.declared.join.Join.{Join}
use Rattle.text.specs.declared.join.Join.TheVariants as join

pub record Made : Type 0 where
  pub first : List Part
  pub more : Bool

-- what is kept of these parts
abbrev pub made_of : List Part → Made
made_of ps = record { first = take 256 ps; more = nat_lt 256 (length ps) }

-- where parts were made, others are made behind them
abbrev pub MakesMore : Made → List Part → Made → Type 0
MakesMore old ps new = (before : List Part) → old ≡ made_of before → new ≡ made_of (before ++ ps)

-- all parts, or none where they are over 256
abbrev pub AllOf : List Part → Option (Bor (List Part)) → Type 0
AllOf ps None = 256 < length ps
AllOf ps (Some some) = (some.now ≡ ps) × (length ps ≤ 256)

abbrev pub symbol_part : ℕ → Part
symbol_part s = record { kind = 1; symbol = s; low = 0; high = 0 }

-- counts from 1 without end
abbrev pub repeat_part : Part
repeat_part = record { kind = 5; symbol = 0; low = 1; high = 0 }

abbrev pub join_part : Join → Part
join_part join.Choice = record { kind = 2; symbol = 0; low = 0; high = 0 }
join_part join.Sequence = record { kind = 3; symbol = 0; low = 0; high = 0 }
join_part join.Interleave = record { kind = 4; symbol = 0; low = 0; high = 0 }

-- what a suffix adds to the parts of what stands before it
abbrev pub mark_parts : Mark → List Part
mark_parts mark.Optional = blank ∷ join_part join.Choice ∷ []
mark_parts mark.Repeated = repeat_part ∷ []
mark_parts mark.Any = repeat_part ∷ blank ∷ join_part join.Choice ∷ []
