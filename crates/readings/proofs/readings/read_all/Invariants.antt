use Rattle.std.proofs.Common.{take}
use Rattle.readings.specs.Runs.{start}
use Rattle.readings.proofs.Running.{RunsTo}
use Rattle.readings.proofs.readings.read_all.Given as goal

abbrev pub invariant-loop-place : goal.invariant-loop-place
invariant-loop-place g l = RunsTo (start g.N.Notation.which l.fn.vocabulary) (take l.place l.calls) l.answers.items l.desk
