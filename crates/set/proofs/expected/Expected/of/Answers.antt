use Rattle.std.proofs.Common.{rules}
use Rattle.models.specs.Checked.{tree_of}
use Rattle.set.proofs.Sets.{formed_of, standing_set}
use Rattle.set.proofs.expected.Expected.of.Goals as goal

pub invariant_of-result-clause-all : goal.invariant_of-result-clause-all
invariant_of-result-clause-all c =
    let model = c.args.model.now in
    standing_set (tree_of model) _ (formed_of model) (search rules) c.symbols_of.ensures.standing
