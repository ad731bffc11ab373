-- What some message does against the rule of a verdict, in words. Assumes nothing.
use Rattle.std.specs.Prelude.{ℕ, cond, List, ◌++◌, length, codes, decimal, ◌==◌}
use Rattle.parts.specs.Sets.{members}
use Rattle.rules.specs.declared.verdict.Verdict.{Verdict}
use Rattle.wording.specs.Symbols.{row_said}

-- one of three, for a set of no symbol, of one, of more
abbrev pub by_size : ℕ → List ℕ → List ℕ → List ℕ → List ℕ
by_size set none one more = let size = length (members set) in cond (size == 0) none (cond (size == 1) one more)

-- the symbols of a set
abbrev pub elements_said : List (List ℕ) → ℕ → List ℕ
elements_said names set = row_said (codes ", ") names set

-- a symbol of the set, which a message has
abbrev pub has_said : List (List ℕ) → ℕ → List ℕ
has_said names set =
    let elements = elements_said names set in by_size set (codes "one of no elements") elements (codes "one of " ++ elements)

-- the symbols of the set, none of which a message has
abbrev pub lacks_said : List (List ℕ) → ℕ → List ℕ
lacks_said names set =
    let elements = elements_said names set in
    by_size set (codes "none of no elements") (codes "no " ++ elements) (codes "none of " ++ elements)

-- a number of occurrences that is not low to high, where a high of 0 is no upper end
abbrev pub misses_said : ℕ → ℕ → List ℕ
misses_said low high =
    cond (high == 0) (codes "fewer than " ++ decimal low)
    (cond (low == high) (codes "not exactly " ++ decimal low)
    (codes "not " ++ (decimal low ++ (codes " to " ++ decimal high))))

-- family 1: a symbol that is not of the set
abbrev pub other_said : List (List ℕ) → Verdict → List ℕ
other_said names v =
    let other = codes "some message has an element other than " ++ elements_said names v.first.bits in
    by_size v.first.bits (codes "some message has an element where none is expected") other other

-- family 2: no symbol of the set; no message keeps the rule where that is empty
abbrev pub none_said : List (List ℕ) → Verdict → List ℕ
none_said names v =
    let none = codes "some message has " ++ lacks_said names v.first.bits in
    by_size v.first.bits (codes "some message is sent where none is expected") none none

-- family 3: a symbol of the set, but too few or too many of it
abbrev pub number_said : List (List ℕ) → Verdict → List ℕ
number_said names v =
    codes "some message has " ++ (has_said names v.first.bits ++ (codes ", but " ++ (misses_said v.low v.high ++ codes " of it")))

-- family 4: a symbol of the first set, and none of the second
abbrev pub without_said : List (List ℕ) → Verdict → List ℕ
without_said names v =
    codes "some message has " ++ (has_said names v.first.bits ++ (codes ", but " ++ lacks_said names v.second.bits))

-- family 5: a symbol of the first set after one of the second
abbrev pub after_said : List (List ℕ) → Verdict → List ℕ
after_said names v =
    codes "some message has " ++ (has_said names v.first.bits ++ (codes " after " ++ has_said names v.second.bits))

-- what some message does against the rule, by its family
abbrev pub sentence_of : List (List ℕ) → Verdict → List ℕ
sentence_of names v =
    cond (v.family == 1) (other_said names v)
    (cond (v.family == 2) (none_said names v)
    (cond (v.family == 3) (number_said names v)
    (cond (v.family == 4) (without_said names v)
    (cond (v.family == 5) (after_said names v)
    (codes "some message breaks a rule of family " ++ decimal v.family)))))
