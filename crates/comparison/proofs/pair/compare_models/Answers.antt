use Rattle.std.proofs.lemmas.Result.{err_from_is_err_and}
use Rattle.comparison.proofs.Pairs.{sent_refused, expected_refused, compared}
use Rattle.comparison.proofs.pair.compare_models.Goals as goal

pub returns-in_err-declare : goal.returns-in_err-declare
returns-in_err-declare c =
    let refusal = err_from_is_err_and c.from_residual.result c.from_residual.ensures.1 in
    rw (refusal.1, refusal.2)
    (sent_refused _ c.args.sent.now c.args.expected.now _ _ c.blank-drawn_up.ensures.law _ _ _ c.in_err-declare.ensures.law)

pub returns-in_err-declare-2 : goal.returns-in_err-declare-2
returns-in_err-declare-2 c =
    let refusal = err_from_is_err_and c.from_residual-in_err-declare-2.result c.from_residual-in_err-declare-2.ensures.1 in
    rw (refusal.1, refusal.2)
    (expected_refused _ c.args.sent.now c.args.expected.now _ _ c.blank-drawn_up.ensures.law _ _ c.in_ok-declare.ensures.law _ _ _ c.in_err-declare-2.ensures.law)

pub returns : goal.returns
returns c =
    compared _ c.args.sent.now c.args.expected.now _ _ c.blank-drawn_up.ensures.law _ _ c.in_ok-declare.ensures.law _ _ _ _ _
    c.in_ok-declare-2.ensures.law c.issue-issued.ensures.law c.compare.ensures.law
