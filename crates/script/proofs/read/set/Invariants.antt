use Rattle.std.proofs.Common.{◌≡◌}
use Rattle.std.specs.Str.Iter.{split_pattern}
use Rattle.script.specs.Reads.{fields, set_after}
use Rattle.script.proofs.Fields.{fields_left}
use Rattle.script.proofs.read.set.Given as goal

-- what the fields left add to the set so far is what the word writes
abbrev pub invariant-loop-field : goal.invariant-loop-field
invariant-loop-field l =
    (split_pattern l.field-iterator ≡ 44) × (set_after 0 (fields 44 l.fn.word) ≡ set_after l.seen.bits (fields_left 44 l.field-iterator))
