-- What is printed of a verdict. Assumes nothing.
use Rattle.std.specs.Prelude.{ℕ, cond, ◌||◌, List, ◌++◌, codes, decimal, ◌==◌}
use Rattle.parts.specs.Sets.{listed}
use Rattle.rules.specs.declared.verdict.Verdict.{Verdict}

-- an upper end, where 0 is none
abbrev pub upper_said : ℕ → List ℕ
upper_said high = cond (high == 0) (codes "*") (decimal high)

abbrev pub bounds_said : Verdict → List ℕ
bounds_said v = decimal v.low ++ (codes " to " ++ upper_said v.high)

-- the family and its first set
abbrev pub family_said : Verdict → List ℕ
family_said v = codes "family " ++ (decimal v.family ++ (codes ", " ++ listed v.first.bits))

-- families 1 and 2 use one set, 3 a set and bounds, 4 and 5 two sets; of any other all is told
abbrev pub verdict_said : Verdict → List ℕ
verdict_said v =
    cond (v.family == 1 || v.family == 2) (family_said v)
    (cond (v.family == 3) (family_said v ++ (codes ", " ++ bounds_said v))
    (cond (v.family == 4 || v.family == 5) (family_said v ++ (codes ", " ++ listed v.second.bits))
    (family_said v ++ (codes ", " ++ (listed v.second.bits ++ (codes ", " ++ bounds_said v))))))
