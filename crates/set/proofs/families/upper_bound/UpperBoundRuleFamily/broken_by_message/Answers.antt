use Rattle.std.proofs.Common.{subst}
use Rattle.set.specs.Asking.{FirstOutside}
use Rattle.set.proofs.Outside.{all_inside, one_outside}
use Rattle.set.proofs.families.upper_bound.UpperBoundRuleFamily.broken_by_message.Goals as goal

pub returns-in_err-first_outside : goal.returns-in_err-first_outside
returns-in_err-first_outside c =
    let own = c.args.self.now.expected in
    let outside = subst (FirstOutside own.symbols.bits c.args.message.now) c.in_err-first_outside.was c.first_outside.ensures in
    rw (← own.all, c.from_residual.ensures) (all_inside own.symbols.bits c.args.message.now outside)

pub returns : goal.returns
returns c =
    let own = c.args.self.now.expected in
    let outside = subst (FirstOutside own.symbols.bits c.args.message.now) c.in_ok-first_outside.was c.first_outside.ensures in
    rw (← own.all, c.upper_bound.ensures) (one_outside own.symbols.bits c.args.message.now _ outside)
