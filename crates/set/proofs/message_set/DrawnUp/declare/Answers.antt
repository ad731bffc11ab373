use Rattle.std.proofs.Common.{rules}
use Rattle.set.proofs.Leading.{declare_steps}
use Rattle.set.proofs.message_set.DrawnUp.declare.Goals as goal

pub returns-clause-law : goal.returns-clause-law
returns-clause-law c =
    let store = c.args.self.now in
    declare_steps store.sheet.now _ store.slots.at _ store.slots.full store.sound c.args.number c.args.parts.now _ (search rules) (search rules)
