use Rattle.std.proofs.Common.{subst, sym}
use Rattle.grammar.specs.Notations.Notation.{dtd}
use Rattle.text.specs.Progress.{Fails}
use Rattle.text.proofs.Opening.{title_unspaced, title_missing, title_read, title_stands, title_fails}
use Rattle.text.proofs.dtd.opening.title.Goals as goal

pub returns-then-not-skip_blanks-clause-titled : goal.returns-then-not-skip_blanks-clause-titled
returns-then-not-skip_blanks-clause-titled c ks bytes ds r =
    subst (Fails dtd ks bytes ds) (sym c.misplaced.ensures)
    (title_unspaced ks bytes ds c.args.cursor.now c.skip_blanks.new.self r.cursor c.skip_blanks.ensures c.if-not-skip_blanks.true)

pub returns-in_default-clause-titled : goal.returns-in_default-clause-titled
returns-in_default-clause-titled c ks bytes ds r =
    subst (Fails dtd ks bytes ds) (sym c.misplaced-in_default.ensures)
    (title_missing ks bytes ds c.args.cursor.now c.skip_blanks.new.self c.name.new.self r.cursor c.skip_blanks.ensures c.if-not-skip_blanks.false
    c.in_default.ensures)

pub returns-in-Ok-clause-titled : goal.returns-in-Ok-clause-titled
returns-in-Ok-clause-titled c ks bytes ds r =
    let (moved, name, whole) = c.in-Some.ensures in (
      title_read ks bytes ds c.in-Some.name.now c.args.cursor.now c.skip_blanks.new.self c.name.new.self c.declare.new.self c.in-Ok.symbol r.cursor
          c.skip_blanks.ensures c.if-not-skip_blanks.false moved name whole (c.in-Ok.ensures.taken ks _ r.elements),
      c.in-Ok.ensures.symbol,
      title_stands ks bytes ds c.in-Some.name.now c.args.cursor.now c.skip_blanks.new.self c.name.new.self r.cursor c.skip_blanks.ensures
          c.if-not-skip_blanks.false moved name whole,
    )

pub returns-in-Err-clause-titled : goal.returns-in-Err-clause-titled
returns-in-Err-clause-titled c ks bytes ds r =
    let (moved, name, whole) = c.in-Some.ensures in
    subst (Fails dtd ks bytes ds) (sym c.at.ensures)
    (title_fails ks bytes ds c.in-Some.name.now c.args.cursor.now c.skip_blanks.new.self c.name.new.self c.in-Err.cause r.cursor c.skip_blanks.ensures
    c.if-not-skip_blanks.false moved name whole (c.in-Err.ensures.taken ks _ r.elements))
