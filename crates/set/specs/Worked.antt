-- Pairs of a sent and an expected model, with what is answered of them. Assumes nothing.
use Rattle.std.specs.Prelude.{◌≡◌, Some, None, Option}
use Rattle.parts.specs.Sets.{only}
use Rattle.models.specs.Conflicts.{first_conflict_of}
use Rattle.models.specs.Trees.{Tree}
use Rattle.models.specs.Trees.Tree.{empty, symbol, choice, sequence, interleave, count, nonempty}
use Rattle.rules.specs.Rules.{SomeBreaks, FirstIs}
use Rattle.rules.specs.declared.verdict.Verdict.{Verdict}
use Rattle.set.specs.Exact.{Included}
use Rattle.set.specs.Five.{verdict, five}

abbrev pub a : Tree
a = symbol 0

abbrev pub b : Tree
b = symbol 1

abbrev pub c : Tree
c = symbol 2

-- a or nothing, and b or nothing
abbrev pub maybe_a : Tree
maybe_a = choice a empty

abbrev pub maybe_b : Tree
maybe_b = choice b empty

-- the expected model is conflict-free, and of its rules the answer is the first that some
-- message of the sent one breaks
abbrev pub Answered : Tree → Tree → Option Verdict → Type 0
Answered sent expected answer = (first_conflict_of expected ≡ None) × FirstIs (SomeBreaks sent) (five expected) answer

-- and every message of the sent model fits, so that none is broken
abbrev pub AnsweredIncluded : Tree → Tree → Type 0
AnsweredIncluded sent expected = Answered sent expected None × Included sent expected

abbrev pub WorkedPairs : Type 0
WorkedPairs =
    AnsweredIncluded (count (count a 1 2) 1 2) (count a 1 4)
    × Answered (count (count a 1 2) 1 3) (count a 1 5) (Some (verdict 3 (only 0) 0 1 5))
    × Answered (count maybe_a 1 3) (count a 1 3) (Some (verdict 2 (only 0) 0 0 0))
    × Answered (count (sequence a b) 1 0) (sequence (count a 1 0) (count b 1 0)) (Some (verdict 5 (only 0) (only 1) 0 0))
    × AnsweredIncluded (sequence a b) (interleave a b)
    × Answered (choice a c) (choice (sequence a b) c) (Some (verdict 4 (only 0) (only 1) 0 0))
    × Answered (interleave (sequence a b) c) (choice (sequence a b) c) (Some (verdict 5 (only 0) (only 2) 0 0))
    × AnsweredIncluded (nonempty (sequence maybe_a maybe_b)) (nonempty (interleave maybe_a maybe_b))
