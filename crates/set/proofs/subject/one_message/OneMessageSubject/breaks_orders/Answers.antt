use Rattle.std.proofs.Common.{subst}
use Rattle.set.specs.Asking.{LastAt}
use Rattle.set.proofs.Subjects.{orders_kept, orders_none, orders_some}
use Rattle.set.proofs.subject.one_message.OneMessageSubject.breaks_orders.Goals as goal

pub returns-in_err-last : goal.returns-in_err-last
returns-in_err-last c =
    let m = c.args.self.now.message.now in
    rw c.from_residual.ensures (orders_kept c.args.symbol c.args.others.bits m (subst (LastAt c.args.symbol m) c.in_err-last.was c.find_symbol.ensures.last))

pub returns-in_err-other : goal.returns-in_err-other
returns-in_err-other c =
    let m = c.args.self.now.message.now in
    let last = subst (LastAt c.args.symbol m) c.in_ok-last.was c.find_symbol.ensures.last in
    rw c.from_residual-in_err-other.ensures
    (orders_none c.args.symbol c.args.others.bits _ _ _ m last c.symbols_met-before.ensures c.intersection.ensures c.in_err-other.ensures.0)

pub returns : goal.returns
returns c =
    let m = c.args.self.now.message.now in
    let last = subst (LastAt c.args.symbol m) c.in_ok-last.was c.find_symbol.ensures.last in
    rw c.order.ensures (orders_some c.args.symbol c.args.others.bits _ _ _ m last c.symbols_met-before.ensures c.intersection.ensures _ _ c.in_ok-other.ensures)
