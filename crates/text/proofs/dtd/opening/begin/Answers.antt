use Rattle.std.proofs.Common.{subst, sym}
use Rattle.std.proofs.lemmas.Result.{err_from_is_err_and}
use Rattle.grammar.specs.Notations.Notation.{dtd}
use Rattle.text.specs.Progress.{Fails}
use Rattle.text.proofs.Opening.{begin_none, begin_misses, begin_reads, begin_fails}
use Rattle.text.proofs.dtd.opening.begin.Goals as goal

pub returns-in_err-gap-clause-begun : goal.returns-in_err-gap-clause-begun
returns-in_err-gap-clause-begun c ks bytes ds h r =
    let p = err_from_is_err_and c.from_residual.result c.from_residual.ensures.1 in
    rw (p.1, p.2) (c.in_err-gap.ensures ks bytes ds h r.cursor)

pub returns-then-is_empty-clause-begun : goal.returns-then-is_empty-clause-begun
returns-then-is_empty-clause-begun c ks bytes ds h r =
    begin_none ks bytes ds c.gap.new.cursor c.args.elements.now c.rest.result.now (c.in_ok-gap.ensures ks bytes ds h r.cursor) r.elements c.rest.ensures
    c.is_empty.ensures c.if-is_empty.true

pub returns-in_err-word-clause-begun : goal.returns-in_err-word-clause-begun
returns-in_err-word-clause-begun c ks bytes ds h r =
    let p = err_from_is_err_and c.from_residual-in_err-word.result c.from_residual-in_err-word.ensures.1 in
    rw (p.1, p.2)
    (begin_misses ks bytes ds c.gap.new.cursor c.word.new.cursor c.rest.result.now c.in_err-word.field-0.0 (c.in_ok-gap.ensures ks bytes ds h r.cursor) c.rest.ensures
    c.is_empty.ensures c.if-is_empty.false c.in_err-word.ensures)

pub returns-in-Ok-clause-begun : goal.returns-in-Ok-clause-begun
returns-in-Ok-clause-begun c ks bytes ds h r =
    begin_reads ks bytes ds c.gap.new.cursor c.word.new.cursor c.begin.new.self c.in-Ok.field-0 (c.in_ok-gap.ensures ks bytes ds h r.cursor) c.in_ok-word.ensures
    (c.in-Ok.ensures.taken ks _ r.elements)

pub returns-in-Err-clause-begun : goal.returns-in-Err-clause-begun
returns-in-Err-clause-begun c ks bytes ds h r =
    subst (Fails dtd ks bytes ds) (sym c.at.ensures)
    (begin_fails ks bytes ds c.gap.new.cursor c.word.new.cursor c.in-Err.cause (c.in_ok-gap.ensures ks bytes ds h r.cursor) c.in_ok-word.ensures
    (c.in-Err.ensures.taken ks _ r.elements))
