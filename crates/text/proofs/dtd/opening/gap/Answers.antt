use Rattle.std.proofs.Common.{subst, sym}
use Rattle.grammar.specs.Notations.Notation.{dtd}
use Rattle.text.specs.Progress.{Fails}
use Rattle.text.proofs.Opening.{gap_smaller, between_on, gap_read, gap_fails}
use Rattle.text.proofs.dtd.opening.gap.Goals as goal

pub loop-place-init : goal.loop-place-init
loop-place-init c ks bytes ds h r = (h, r)

pub loop-place-smaller : goal.loop-place-smaller
loop-place-smaller c = gap_smaller c.loop-place.cursor c.skip_blanks.new.self c.comment.new.self c.skip_blanks.result c.skip_blanks.ensures c.in-Ok-true.ensures c.in-Ok-true.field-0-test

pub loop-place-preserved : goal.loop-place-preserved
loop-place-preserved c =
    between_on c.args.cursor.now c.loop-place.cursor c.skip_blanks.new.self c.comment.new.self c.skip_blanks.result c.loop-place.invariant c.skip_blanks.ensures
    c.in-Ok-true.ensures c.in-Ok-true.field-0-test

pub returns-in-Ok-false : goal.returns-in-Ok-false
returns-in-Ok-false c =
    gap_read c.args.cursor.now c.loop-place.cursor c.skip_blanks.new.self c.comment.new.self c.skip_blanks.result c.loop-place.invariant c.skip_blanks.ensures
    c.in-Ok-false.ensures c.in-Ok-false.field-0-test

pub returns-in-Err : goal.returns-in-Err
returns-in-Err c ks bytes ds h r =
    subst (Fails dtd ks bytes ds) (sym c.at.ensures)
    (gap_fails c.args.cursor.now c.loop-place.cursor c.skip_blanks.new.self c.comment.new.self c.skip_blanks.result c.in-Err.place c.loop-place.invariant c.skip_blanks.ensures
    c.in-Err.ensures ks bytes ds h r)
