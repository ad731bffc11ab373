use Rattle.std.proofs.Common.{◌+◌, ◌++◌, get_or, take, drop, sym, ap, ◌∙◌, arith}
use Rattle.std.proofs.lemmas.Bool.Decides.{not_from_Decides}
use Rattle.std.proofs.lemmas.List.{take_more, take_all, length-take-le, take-append-drop, drop_more}
use Rattle.set.proofs.Sofar.{all_in_more}
use Rattle.set.proofs.message.first_outside.Goals as goal

pub returns-then-not-has : goal.returns-then-not-has
returns-then-not-has c =
    let m = c.args.message.now in
    let i = c.loop-place.place in
    (take i m, get_or m i 0, drop (i + 1) m, sym (take-append-drop i m) ∙ ap (λ r. take i m ++ r) (drop_more m i 0 c.loop-place-test.true), length-take-le i m (omega arith), not_from_Decides _ c.has.ensures c.if-not-has.true, c.loop-place.invariant)

pub loop-place-preserved : goal.loop-place-preserved
loop-place-preserved c =
    rw (take_more c.args.message.now c.loop-place.place 0 c.loop-place-test.true)
    (all_in_more (take c.loop-place.place c.args.message.now) _ c.args.set.bits c.loop-place.invariant (c.has.ensures.0 c.if-not-has.false))

pub returns : goal.returns
returns c = rw (take_all c.loop-place.place c.args.message.now c.loop-place-test.false) at c.loop-place.invariant
