use Rattle.std.proofs.Common.{sym, ap, ◌∙◌, arith, rules}
use Rattle.models.specs.Checking.{flag_taken}
use Rattle.models.proofs.Admits.{admit_ok}
use Rattle.models.proofs.model.check.check_part.Goals as goal

pub returns : goal.returns
returns c = record {
  grows = search rules;
  kept = search rules;
  admitted = λ ts tell formed.
      admit_ok c.args.part c.in-Ok.form c.args.place ts _ _ (sym c.in-Ok.ensures) tell
      (sym c.if-not-fields_fit.ensures) (omega arith) (sym (c.if-not-symbol_taken.ensures ∙ ap (flag_taken c.in-Ok.form) c.last.ensures)) formed
      (λ us e f. c.apply.ensures.told ts us tell e f);
}
