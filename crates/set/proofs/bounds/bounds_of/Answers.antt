use Rattle.models.specs.Checked.{tree_of}
use Rattle.set.proofs.Sets.{formed_of}
use Rattle.set.proofs.Bounding.{bounds_formed}
use Rattle.set.proofs.bounds.bounds_of.Goals as goal

pub returns-clause-bounded : goal.returns-clause-bounded
returns-clause-bounded c =
    let model = c.args.model.now in
    rw c.work_up.ensures.1 (bounds_formed c.args.symbol (tree_of model) (formed_of model))
