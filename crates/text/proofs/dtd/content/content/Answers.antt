use Rattle.std.proofs.Common.{Err, ◌==◌, sym, ◌∙◌, ap, subst, arith}
use borrow.Author.Tests.{ltb-true}
use Rattle.std.proofs.lemmas.Result.{err_from_is_err_and}
use Rattle.grammar.specs.Notations.Notation.{dtd}
use Rattle.text.specs.Declaring.{Ended}
use Rattle.text.specs.Fronts.{Past}
use Rattle.text.specs.Progress.{Fails}
use Rattle.text.proofs.Contents.{byte_moved, no_byte}
use Rattle.text.proofs.Titles.{space_missing, content_missing, empty_ended, empty_missing, any_fails, any_missing, group_opened}
use Rattle.text.proofs.dtd.content.content.Goals as goal
use Rattle.text.proofs.dtd.content.content.Goals.{in_default-via-then-rest-lt1, in_default-via-else-rest-lt1+in_default-1}

pub returns-then-not-skip_blanks-clause-ended : goal.returns-then-not-skip_blanks-clause-ended
returns-then-not-skip_blanks-clause-ended c ks bytes ds n r empty =
    subst (Fails dtd ks bytes ds) (sym c.misplaced.ensures)
    (space_missing ks bytes ds n c.args.cursor.now c.skip_blanks.new.self c.args.elements.now r c.if-not-skip_blanks.ensures)

pub returns-in_err-word-in-69-clause-ended : goal.returns-in_err-word-in-69-clause-ended
returns-in_err-word-in-69-clause-ended c ks bytes ds n r empty =
    let (f, is, same) = err_from_is_err_and c.from_residual.result c.from_residual.ensures.1 in
    let fails =
    empty_missing ks bytes ds n c.args.cursor.now c.skip_blanks.new.self c.word.new.cursor c.rest.result.now c.args.elements.now c.in_err-word-in-69.field-0.0
    r c.if-not-skip_blanks.ensures c.rest.ensures c.in-69.len_at_least (omega arith) c.in_err-word-in-69.ensures in
    subst (λ x. Ended ks bytes ds n x c.word.new.cursor c.args.elements.now c.args.made.now) (sym (is ∙ ap Err same)) fails

pub returns-in_err-word-in-65-clause-ended : goal.returns-in_err-word-in-65-clause-ended
returns-in_err-word-in-65-clause-ended c ks bytes ds n r empty =
    let (f, is, same) = err_from_is_err_and c.from_residual-in_err-word-in-65.result c.from_residual-in_err-word-in-65.ensures.1 in
    let fails =
    any_missing ks bytes ds n c.args.cursor.now c.skip_blanks.new.self c.word-in-65.new.cursor c.rest.result.now c.args.elements.now c.in_err-word-in-65.field-0.0
    r c.if-not-skip_blanks.ensures c.rest.ensures c.in-65.len_at_least (omega arith) c.in_err-word-in-65.ensures in
    subst (λ x. Ended ks bytes ds n x c.word-in-65.new.cursor c.args.elements.now c.args.made.now) (sym (is ∙ ap Err same)) fails

pub returns-in_ok-word-in-69-clause-ended : goal.returns-in_ok-word-in-69-clause-ended
returns-in_ok-word-in-69-clause-ended c ks bytes ds n r empty =
    empty_ended ks bytes ds n c.args.cursor.now c.skip_blanks.new.self c.word.new.cursor c.args.elements.now c.args.made.now c.nothing.new.self
    r c.if-not-skip_blanks.ensures c.in_ok-word-in-69.ensures empty c.nothing.ensures

pub returns-in_ok-word-in-65-clause-ended : goal.returns-in_ok-word-in-65-clause-ended
returns-in_ok-word-in-65-clause-ended c ks bytes ds n r empty =
    subst (Fails dtd ks bytes ds) (sym c.at.ensures)
    (any_fails ks bytes ds n c.args.cursor.now c.skip_blanks.new.self c.word-in-65.new.cursor c.args.elements.now r c.if-not-skip_blanks.ensures c.in_ok-word-in-65.ensures)

pub returns-in-40-clause-ended : goal.returns-in-40-clause-ended
returns-in-40-clause-ended c ks bytes ds n r empty =
    c.group.ensures.ended ks bytes ds n
    (group_opened ks bytes ds n c.args.cursor.now c.skip_blanks.new.self c.advance.new.self c.args.elements.now r c.if-not-skip_blanks.ensures
    (byte_moved c.skip_blanks.new.self c.advance.new.self 40 c.rest.result.now c.rest.ensures c.in-40.len_at_least (omega arith) c.advance.ensures)) empty

pub returns-in_default-clause-ended : goal.returns-in_default-clause-ended
returns-in_default-clause-ended c ks bytes ds n r empty =
    let letter = no_byte c.rest.result.now 69 (λ some is. elim c.in_default.branch [ in_default-via-then-rest-lt1 w ↦ omega (arith, ltb-true) | in_default-via-else-rest-lt1+in_default-1 w ↦ omega arith ]) in
    let other = no_byte c.rest.result.now 65 (λ some is. elim c.in_default.branch [ in_default-via-then-rest-lt1 w ↦ omega (arith, ltb-true) | in_default-via-else-rest-lt1+in_default-1 w ↦ omega arith ]) in
    let paren = no_byte c.rest.result.now 40 (λ some is. elim c.in_default.branch [ in_default-via-then-rest-lt1 w ↦ omega (arith, ltb-true) | in_default-via-else-rest-lt1+in_default-1 w ↦ omega arith ]) in
    subst (Fails dtd ks bytes ds) (sym c.misplaced-in_default.ensures)
    (content_missing ks bytes ds n c.args.cursor.now c.skip_blanks.new.self c.args.elements.now r c.if-not-skip_blanks.ensures
    (subst (Past (λ b. b == 69)) c.rest.ensures letter) (subst (Past (λ b. b == 65)) c.rest.ensures other) (subst (Past (λ b. b == 40)) c.rest.ensures paren))
