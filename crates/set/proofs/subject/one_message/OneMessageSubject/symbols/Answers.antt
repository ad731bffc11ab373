use Rattle.std.proofs.Common.{sym, subst}
use Rattle.set.proofs.Sofar.{SymbolsMet}
use Rattle.set.proofs.Meeting.{met_in_is}
use Rattle.set.proofs.Subjects.{others_kept}
use Rattle.set.proofs.subject.one_message.OneMessageSubject.symbols.Goals as goal

pub returns : goal.returns
returns c =
    let one = c.args.self.now in
    others_kept one.message.now one.met.bits (subst (SymbolsMet one.message.now) (sym one.all) (met_in_is one.message.now))
