use Rattle.text.proofs.Declarations.{reads, declares}
use Rattle.text.proofs.dtd.DtdNotation.declaration.Goals as goal

pub returns-clause-declared : goal.returns-clause-declared
returns-clause-declared c ks bytes ds between blank =
    let (h, r) = reads ks bytes ds c.args.cursor.now c.args.elements.now between in
    declares ks bytes ds _ _ _ _ (c.declaration.ensures.read ks bytes ds h r blank)
