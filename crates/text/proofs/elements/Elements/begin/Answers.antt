use Rattle.std.proofs.Common.{arith}
use Rattle.text.proofs.ElementLemmas.{begins}
use Rattle.text.proofs.elements.Elements.begin.Goals as goal

pub returns-clause-taken : goal.returns-clause-taken
returns-clause-taken c ks ss are = begins ks ss c.args.self.now are (omega arith)
