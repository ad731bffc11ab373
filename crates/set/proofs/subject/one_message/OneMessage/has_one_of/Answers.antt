use Rattle.std.proofs.Common.{sym, subst}
use Rattle.set.proofs.Sofar.{SymbolsMet}
use Rattle.set.proofs.Meeting.{met_in_is}
use Rattle.set.proofs.Subjects.{met_has}
use Rattle.set.proofs.subject.one_message.OneMessage.has_one_of.Goals as goal

pub returns : goal.returns
returns c =
    let one = c.args.self.now in
    met_has _ one.met.bits _ one.message.now _ c.intersection.ensures (subst (SymbolsMet one.message.now) (sym one.all) (met_in_is one.message.now)) c.is_empty.ensures
