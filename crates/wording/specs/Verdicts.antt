-- What is printed of a verdict, with names in its sets. Assumes nothing.
use Rattle.std.specs.Prelude.{ℕ, cond, ◌||◌, List, ◌++◌, codes, decimal, ◌==◌}
use Rattle.rules.specs.Texts.{bounds_said}
use Rattle.rules.specs.declared.verdict.Verdict.{Verdict}
use Rattle.wording.specs.Symbols.{listed_by}

-- the family and its first set
abbrev pub family_said_by : List (List ℕ) → Verdict → List ℕ
family_said_by names v = codes "family " ++ (decimal v.family ++ (codes ", " ++ listed_by names v.first.bits))

-- families 1 and 2 use one set, 3 a set and bounds, 4 and 5 two sets; of any other all is told
abbrev pub verdict_said_by : List (List ℕ) → Verdict → List ℕ
verdict_said_by names v =
    cond (v.family == 1 || v.family == 2) (family_said_by names v)
    (cond (v.family == 3) (family_said_by names v ++ (codes ", " ++ bounds_said v))
    (cond (v.family == 4 || v.family == 5) (family_said_by names v ++ (codes ", " ++ listed_by names v.second.bits))
    (family_said_by names v ++ (codes ", " ++ (listed_by names v.second.bits ++ (codes ", " ++ bounds_said v))))))
