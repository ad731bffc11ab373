use Rattle.std.proofs.Common.{length, take}
use Rattle.std.specs.Str.Lines.{lines}
use Rattle.runner.specs.Entries.{Entered}
use Rattle.runner.proofs.entry.read_entries.Given as goal

-- what the lines so far make is entered
abbrev pub invariant-loop-place : goal.invariant-loop-place
invariant-loop-place l =
    record {
      next : goal.iterator-loop-place.can_next l.place-iterator;
      finite : goal.iterator-loop-place.is_finite l.place-iterator;
      entered : Entered (take (length l.yielded) (lines l.text)) l.initial.entries.items l.entries.items;
    }
