use Rattle.std.proofs.Common.{get_or, take, refl}
use Rattle.std.proofs.lemmas.List.{take_more}
use Rattle.std.proofs.lemmas.Bool.Decides.{not_from_Decides}
use Rattle.set.proofs.Sofar.{occurs_at, none_in_more}
use Rattle.set.proofs.message.has_one_of.Goals as goal

pub returns-then-has : goal.returns-then-has
returns-then-has c =
    let m = c.args.message.now in
    let i = c.loop-symbol.symbol-index in
    ((λ e. (get_or m i 0, c.has.ensures.0 c.if-has.true, occurs_at m i c.loop-symbol-test.true)), (λ h. refl))

pub loop-symbol-preserved : goal.loop-symbol-preserved
loop-symbol-preserved c =
    let m = c.args.message.now in
    let i = c.loop-symbol.symbol-index in
    rw (take_more m i 0 c.loop-symbol-test.true)
    (none_in_more (take i m) _ c.args.set.bits c.loop-symbol.invariant (not_from_Decides _ c.has.ensures c.if-has.false))
