use Rattle.std.proofs.Common.{refl}
use Rattle.std.proofs.lemmas.Result.{err_from_is_err_and}
use Rattle.report.proofs.Compared.{sent_refused, expected_refused, broken_off, compared}
use Rattle.report.proofs.compare.compare_texts.Goals as goal

pub returns-in_err-sent_elements : goal.returns-in_err-sent_elements
returns-in_err-sent_elements g c =
    let p = err_from_is_err_and c.from_residual.result c.from_residual.ensures.1 in
    rw (p.1, p.2) (sent_refused c.args.sent c.args.expected _ c.new.result c.in_err-sent_elements.field-0.0 c.new.ensures c.in_err-sent_elements.ensures)

pub returns-in_err-expected_elements : goal.returns-in_err-expected_elements
returns-in_err-expected_elements g c =
    let p = err_from_is_err_and c.from_residual-in_err-expected_elements.result c.from_residual-in_err-expected_elements.ensures.1 in
    rw (p.1, p.2)
    (expected_refused c.args.sent c.args.expected _ c.new.result c.in_ok-sent_elements.field-0 c.in_err-expected_elements.field-0.0 c.new.ensures c.in_ok-sent_elements.ensures
    c.in_err-expected_elements.ensures)

pub returns-in_err-tally : goal.returns-in_err-tally
returns-in_err-tally g c =
    let p = err_from_is_err_and c.from_residual-in_err-tally.result c.from_residual-in_err-tally.ensures.1 in
    rw p.1 (broken_off c.args.sent c.args.expected _ _ p.0 p.2)

pub returns : goal.returns
returns g c =
    compared c.args.sent c.args.expected _ _ c.new.result c.in_ok-sent_elements.field-0 c.in_ok-expected_elements.field-0
    (record { path = c.args.sent.path; text = c.args.sent.text; elements = c.as_slice.result })
    (record { path = c.args.expected.path; text = c.args.expected.text; elements = c.as_slice-2.result })
    c.in_ok-tally.tally c.new.ensures c.in_ok-sent_elements.ensures
    c.in_ok-expected_elements.ensures (refl, refl, c.as_slice.ensures.value) (refl, refl, c.as_slice-2.ensures.value) c.in_ok-tally.ensures
