use Rattle.std.proofs.Common.{[], Err, None, ◌==◌, refl, sym, ◌∙◌, ap, subst, arith}
use borrow.Author.Tests.{ltb-true}
use Rattle.std.proofs.lemmas.Result.{err_from_is_err_and}
use Rattle.grammar.specs.Lists.State.{want}
use Rattle.grammar.specs.Machine.Spot.{kids}
use Rattle.text.specs.Declaring.{Ended}
use Rattle.text.specs.Fronts.{Past}
use Rattle.text.proofs.Contents.{no_byte, blanks_past, read_blanks}
use Rattle.text.proofs.Titles.{pcdata_read, pcdata_missing}
use Rattle.text.proofs.dtd.content.group.Goals as goal
use Rattle.text.proofs.dtd.content.group.Goals.{in_default-via-then-rest-lt1, in_default-via-else-rest-lt1+in_default-1}

pub returns-in_err-word-in-35-clause-ended : goal.returns-in_err-word-in-35-clause-ended
returns-in_err-word-in-35-clause-ended c ks bytes ds n r empty =
    let (f, is, same) = err_from_is_err_and c.from_residual.result c.from_residual.ensures.1 in
    let fails =
    pcdata_missing ks bytes ds n c.skip_blanks.result c.args.cursor.now c.skip_blanks.new.self c.word.new.cursor c.rest.result.now c.args.elements.now c.in_err-word-in-35.field-0.0
    r c.skip_blanks.ensures c.rest.ensures c.in-35.len_at_least (omega arith) c.in_err-word-in-35.ensures in
    subst (λ x. Ended ks bytes ds n x c.word.new.cursor c.args.elements.now c.args.made.now) (sym (is ∙ ap Err same)) fails

pub returns-in_ok-word-in-35-clause-ended : goal.returns-in_ok-word-in-35-clause-ended
returns-in_ok-word-in-35-clause-ended c ks bytes ds n r empty =
    c.mixed.ensures.ended ks bytes ds n
    (pcdata_read ks bytes ds n c.skip_blanks.result c.args.cursor.now c.skip_blanks.new.self c.word.new.cursor c.args.elements.now r c.skip_blanks.ensures c.in_ok-word-in-35.ensures) empty

pub returns-in_default-clause-ended : goal.returns-in_default-clause-ended
returns-in_default-clause-ended c ks bytes ds n r empty =
    let hash = no_byte c.rest.result.now 35 (λ some is. elim c.in_default.branch [ in_default-via-then-rest-lt1 w ↦ omega (arith, ltb-true) | in_default-via-else-rest-lt1+in_default-1 w ↦ omega arith ]) in
    c.children.ensures.ended ks bytes ds n _
    (read_blanks ks bytes (kids ds n (want [] None)) _ c.skip_blanks.result c.args.cursor.now c.skip_blanks.new.self c.args.elements.now r refl c.skip_blanks.ensures)
    (blanks_past c.skip_blanks.result c.args.cursor.now c.skip_blanks.new.self c.skip_blanks.ensures) (subst (Past (λ b. b == 35)) c.rest.ensures hash) empty
