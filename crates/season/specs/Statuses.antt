-- The status that a build goes by. Assumes nothing.
use Rattle.std.specs.Prelude.{ℕ, cond}
use Rattle.report.specs.Tallies.{all_included}
use Rattle.report.specs.declared.tally.Tally.{Tally}

-- 0 where every element of the sent text is included, else 1
abbrev pub tally_status : Tally → ℕ
tally_status t = cond (all_included t) 0 1
