use Rattle.std.proofs.Common.{rules}
use Rattle.models.specs.Checked.{tree_of}
use Rattle.set.proofs.Sets.{formed_of, standing_set}
use Rattle.set.proofs.subject.messages_of.MessagesOf.of.Goals as goal

pub invariant_of-result : goal.invariant_of-result
invariant_of-result c =
    let model = c.args.model.now in
    record { all = standing_set (tree_of model) _ (formed_of model) (search rules) c.symbols_of.ensures.standing }
