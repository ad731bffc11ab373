use Rattle.std.proofs.Common.{sym, ◌∙◌, arith}
use Rattle.std.proofs.lemmas.Result.{err_from_is_err_and}
use Rattle.models.proofs.Along.{along_more, along_next}
use Rattle.models.proofs.Admits.{admitted_trees, admitted_fault}
use Rattle.models.proofs.model.check.check_parts.Goals as goal

pub returns-in_err-check_part : goal.returns-in_err-check_part
returns-in_err-check_part c =
    let a = c.loop-place.invariant.2 in
    let p = err_from_is_err_and c.from_residual.result c.from_residual.ensures.1 in
    let fault = admitted_fault _ _ _ _ _ (c.in_err-check_part.ensures.admitted a.trees a.tell a.formed) in
    let all = sym fault ∙ along_next _ _ _ _ a _ c.loop-place-test.true in
    rw (p.1, p.2, ← all)

pub loop-place-preserved : goal.loop-place-preserved
loop-place-preserved c =
    let a = c.loop-place.invariant.2 in
    let (us, made, tell, formed) = admitted_trees _ _ _ (c.in_ok-check_part.ensures.admitted a.trees a.tell a.formed) in
    (omega arith, omega arith, along_more _ _ _ _ a _ _ us c.loop-place-test.true made tell formed)
