-- How many elements were found how. Assumes nothing.
use Rattle.std.specs.Prelude.{◌≡◌, ◌↔◌, All, ℕ, Bool, true, ◌+◌, ◌-◌, ◌^◌, ◌<◌, ◌==◌, ◌&&◌, List, ◌++◌, codes, decimal, fold}
use Rattle.report.specs.declared.finding.Finding.{Finding}
use Rattle.report.specs.declared.finding.Finding.TheVariants.{Included, Breaks, Conflict, Alone}
use Rattle.report.specs.declared.tally.Tally.{Tally}

-- with one finding more
abbrev pub tally_with : Tally → Finding → Tally
tally_with t Included = record t { included = t.included + 1 }
tally_with t (Breaks v) = record t { broken = t.broken + 1 }
tally_with t (Conflict name part) = record t { conflicts = t.conflicts + 1 }
tally_with t Alone = record t { alone = t.alone + 1 }

abbrev pub no_tally : Tally
no_tally = record { included = 0; broken = 0; conflicts = 0; alone = 0; missing = 0 }

-- of findings in turn
abbrev pub tally_of : List Finding → Tally
tally_of fs = fold tally_with no_tally fs

-- every element of the sent text is included
abbrev pub all_included : Tally → Bool
all_included t = (t.broken == 0) && ((t.conflicts == 0) && (t.alone == 0))

-- so it is exactly where each finding is that a model is included
abbrev pub AllIncludedExactly : Type 0
AllIncludedExactly = (fs : List Finding) → (all_included (tally_of fs) ≡ true) ↔ All (λ f. f ≡ Included) fs

-- its numbers can grow by one
abbrev pub sums_fit : Tally → Type 0
sums_fit t = (t.included < 2 ^ 64 - 1) × (t.broken < 2 ^ 64 - 1) × (t.conflicts < 2 ^ 64 - 1) × (t.alone < 2 ^ 64 - 1)

-- what is told of it: how many of how many are included, and how many are not for each reason
abbrev pub compared_said : ℕ → Tally → List ℕ
compared_said total t =
    decimal t.included ++ (codes " of " ++ (decimal total ++ (codes " elements included, " ++ (decimal t.broken ++ (codes " not, "
    ++ (decimal t.conflicts ++ codes " not compared"))))))

abbrev pub summary_said : List ℕ → List ℕ → ℕ → Tally → List ℕ
summary_said sent expected total t =
    compared_said total t ++ (codes ", " ++ (decimal t.alone ++ (codes " in " ++ (sent ++ (codes " alone, "
    ++ (decimal t.missing ++ (codes " in " ++ (expected ++ codes " alone"))))))))
