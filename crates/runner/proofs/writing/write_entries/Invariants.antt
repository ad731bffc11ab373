use Rattle.std.proofs.Common.{map, drop}
use Rattle.seasons.specs.Calls.{told}
use Rattle.runner.proofs.Turning.{Turned}
use Rattle.runner.proofs.writing.write_entries.Given as goal

abbrev pub invariant-loop-entry : goal.invariant-loop-entry
invariant-loop-entry g l = Turned l.entries l.entry-index (map told (drop l.next l.answers)) (g.W.Write.contents l.initial.out) (g.W.Write.contents l.out)
