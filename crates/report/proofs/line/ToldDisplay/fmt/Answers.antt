use Rattle.std.proofs.Common.{ap, sym}
use Rattle.std.proofs.Output.{has_written_of_eq}
use Rattle.report.specs.Lines.{side_of, finding_said}
use Rattle.report.proofs.line.ToldDisplay.fmt.Goals as goal

pub returns-in-Conflict-clause-writes : goal.returns-in-Conflict-clause-writes
returns-in-Conflict-clause-writes g c plain ok =
    let l = c.args.self.now.line in
    has_written_of_eq g.W.Write.write_str_gives _ _ _ _ (ap (finding_said l.names.now (side_of l.here) (side_of l.there)) (sym c.in-Conflict.is)) (c.write-in-Conflict.ensures.writes plain ok)
