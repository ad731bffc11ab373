-- The machine that reads lists and groups, sign by sign: what proofs rest on, and no contract. Assumes nothing.
use Rattle.std.specs.Prelude.{◌≡◌, cond, List, [], ◌∷◌, ◌++◌, Some, None, Option, IsSome}
use Rattle.grammar.specs.Words.{Join, Words, Sign, is_plain, goes_on, IsList, signs}
use Rattle.grammar.specs.Words.Words.{name, nothing, group, marked, joined}
use Rattle.grammar.specs.Words.Sign.{names, empties, opens, closes, suffix, separator}

-- what stands before a member in its list: nothing, or a list and what joins it
abbrev pub Left : Type 0
Left = Option (Words × Join)

abbrev pub put : Left → Words → Words
put None w = w
put (Some (l, j)) w = joined l j w

-- where reading stands: a member is wanted, or one was got, in groups that are open outside
pub data State : Type 0 where
  want : List Left → Left → State
  got : List Left → Left → Words → State

abbrev pub closed : List Left → Words → Option State
closed [] w = None
closed (l ∷ o) w = Some (got o l (group w))

abbrev pub step : State → Sign → Option State
step (want o l) (names n) = Some (got o l (name n))
step (want o l) empties = Some (got o l nothing)
step (want o l) opens = Some (want (l ∷ o) None)
step (want o l) closes = None
step (want o l) (suffix m) = None
step (want o l) (separator j) = None
step (got o l w) (names n) = None
step (got o l w) empties = None
step (got o l w) opens = None
step (got o l w) closes = closed o (put l w)
step (got o l w) (suffix m) = cond (is_plain w) (Some (got o l (marked w m))) None
step (got o l w) (separator j) = cond (goes_on (put l w) j) (Some (want o (Some (put l w, j)))) None

abbrev pub run : List Sign → Option State → Option State
run [] o = o
run (s ∷ ss) None = run ss None
run (s ∷ ss) (Some σ) = run ss (step σ s)

abbrev pub start : Option State
start = Some (want [] None)

-- what a state has read
abbrev pub left_signs : Left → List Sign
left_signs None = []
left_signs (Some (a, j)) = signs a ++ (separator j ∷ [])

abbrev pub outer_signs : List Left → List Sign
outer_signs [] = []
outer_signs (l ∷ o) = outer_signs o ++ (left_signs l ++ (opens ∷ []))

abbrev pub spelled : State → List Sign
spelled (want o l) = outer_signs o ++ left_signs l
spelled (got o l w) = outer_signs o ++ (left_signs l ++ signs w)

-- reading the signs ends with these words
abbrev pub Ends : List Sign → Words → Type 0
Ends ss w = (l : Left) × (r : Words) × (run ss start ≡ Some (got [] l r)) × (w ≡ put l r)

abbrev pub ReadExactly : Type 0
ReadExactly = (ss : List Sign) (w : Words) → (IsList w × (signs w ≡ ss) → Ends ss w) × (Ends ss w → IsList w × (signs w ≡ ss))

-- some list begins with these signs
abbrev pub Begins : List Sign → Type 0
Begins ss = (w : Words) × (more : List Sign) × IsList w × (signs w ≡ ss ++ more)

abbrev pub ViableExactly : Type 0
ViableExactly = (ss : List Sign) → (Begins ss → IsSome (run ss start)) × (IsSome (run ss start) → Begins ss)
