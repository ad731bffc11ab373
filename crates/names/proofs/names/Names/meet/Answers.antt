use Rattle.std.proofs.Common.{arith}
use Rattle.names.proofs.Keeping.{met_again, met_first}
use Rattle.names.proofs.names.Names.meet.Goals as goal

pub returns-in-Some-clause-met : goal.returns-in-Some-clause-met
returns-in-Some-clause-met c = met_again c.args.self.now c.args.name.now c.in-Some.symbol c.symbol.ensures.kept (c.in-Some.ensures.found).0

pub returns-in-None-3-clause-met : goal.returns-in-None-3-clause-met
returns-in-None-3-clause-met c =
    met_first c.args.self.now c.add.new.self c.args.name.now c.add.result c.in-None.ensures.found c.add.ensures.added c.add.ensures.last (omega arith) c.add.ensures.kept
