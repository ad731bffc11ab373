use Rattle.std.proofs.Common.{inl, inr}
use Rattle.std.proofs.lemmas.Result.{err_from_is_err_and}
use Rattle.script.proofs.call.Call.named.Goals as goal

pub returns-in_err-question-in-ask : goal.returns-in_err-question-in-ask
returns-in_err-question-in-ask c =
    let p = err_from_is_err_and c.from_residual-in_err-question-in-ask.result c.from_residual-in_err-question-in-ask.ensures.1 in
    rw (p.1, p.2) (inr (inl (c.in-ask.is, c.in_err-question-in-ask.ensures)))
