use Rattle.std.proofs.Common.{ap, sym, refl, ◌∙◌}
use Rattle.std.proofs.lemmas.Bool.{false≢true}
use Rattle.std.specs.Prelude.{bit_or}
use Rattle.std.proofs.lemmas.Result.{err_from_is_err_and}
use Rattle.text.proofs.ElementLemmas.{declared_before, declares, names_declared, begun_still, not_declared}
use Rattle.text.proofs.elements.Elements.declare.Goals as goal

pub returns-in_err-symbol-clause-taken : goal.returns-in_err-symbol-clause-taken
returns-in_err-symbol-clause-taken c ks ss are =
    let p = err_from_is_err_and c.from_residual.result c.from_residual.ensures.1 in
    rw (p.1, p.2)
    (not_declared ks ss c.args.self.now are c.args.name.now c.meet.new.self c.in_err-symbol.field-0.0 c.meet.ensures.kept c.in_err-symbol.ensures.met)

pub returns-then-has-clause-taken : goal.returns-then-has-clause-taken
returns-then-has-clause-taken c ks ss are =
    let again = declared_before ks ss c.args.self.now are c.args.name.now c.meet.new.self c.in_ok-symbol.symbol c.in_ok-symbol.ensures.met (c.has.ensures.0 c.if-has.true) in
    ((c.args.name.now, refl, again), again)

pub returns-clause-taken : goal.returns-clause-taken
returns-clause-taken c ks ss are =
    let e = c.args.self.now in
    let n = c.args.name.now in
    let new = c.meet.new.self in
    let s = c.in_ok-symbol.symbol in
    let met = c.in_ok-symbol.ensures.met in
    let (faultless, now_declared) = declares ks ss e are n new s c.union-self.result.bits met (λ h. false≢true (sym c.if-has.false ∙ c.has.ensures.1 h)) (c.union-self.ensures ∙ ap (bit_or e.declared.bits) c.of.ensures) in
    (faultless, record { names = names_declared ks ss e are n new s met; begun = begun_still ks ss e are n new; declared = now_declared })
