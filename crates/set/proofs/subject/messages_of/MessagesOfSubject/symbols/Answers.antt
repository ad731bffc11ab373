use Rattle.models.specs.Checked.{tree_of}
use Rattle.set.proofs.Sets.{formed_of}
use Rattle.set.proofs.Subjects.{others_unbroken}
use Rattle.set.proofs.subject.messages_of.MessagesOfSubject.symbols.Goals as goal

pub returns : goal.returns
returns c =
    let all = c.args.self.now in
    rw all.all (others_unbroken (tree_of all.model) (formed_of all.model))
