use Rattle.report.proofs.Reported.{SentSofar}
use Rattle.report.proofs.report.write_sent.Given as goal

abbrev pub invariant-loop-element : goal.invariant-loop-element
invariant-loop-element g l = SentSofar l.names l.sent l.expected l.element-index (g.W.Write.contents l.initial.out) (g.W.Write.contents l.out) l.tally
