use Rattle.script.proofs.error.LineErrorDisplay.fmt.Goals as goal

pub returns-in-NotPart-clause-writes : goal.returns-in-NotPart-clause-writes
returns-in-NotPart-clause-writes g c = rw c.in-NotPart.is c.write-in-NotPart.ensures.writes
