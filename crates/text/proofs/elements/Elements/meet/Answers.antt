use Rattle.std.proofs.lemmas.Result.{err_from_is_err_and}
use Rattle.text.proofs.ElementLemmas.{meets, not_met}
use Rattle.text.proofs.elements.Elements.meet.Goals as goal

pub returns-in_err-meet-clause-taken : goal.returns-in_err-meet-clause-taken
returns-in_err-meet-clause-taken c ks ss are =
    let p = err_from_is_err_and c.from_residual.result c.from_residual.ensures.1 in
    rw (p.1, p.2) (not_met ks ss c.args.self.now are c.args.name.now c.meet.new.self c.in_err-meet.field-0.0 c.in_err-meet.ensures.met)

pub returns-clause-taken : goal.returns-clause-taken
returns-clause-taken c ks ss are = meets ks ss c.args.self.now are c.args.name.now c.meet.new.self c.in_ok-meet.field-0 c.in_ok-meet.ensures.met
