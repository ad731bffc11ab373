use Rattle.report.proofs.Reported.{MissingSofar}
use Rattle.report.proofs.report.write_missing.Given as goal

abbrev pub invariant-loop-element : goal.invariant-loop-element
invariant-loop-element g l = MissingSofar l.names l.sent l.expected l.element-index (g.W.Write.contents l.initial.out) (g.W.Write.contents l.out) l.missing
