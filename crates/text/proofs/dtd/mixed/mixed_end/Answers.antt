use Rattle.std.proofs.Common.{true, false, ◌==◌, refl, sym, ◌∙◌, arith, subst}
use borrow.Author.Tests.{ltb-true}
use Rattle.std.proofs.lemmas.Bool.{false≢true}
use Rattle.grammar.specs.Notations.Notation.{dtd}
use Rattle.grammar.specs.Machine.Spot.{starless}
use Rattle.text.specs.Cursors.{rest_of}
use Rattle.text.specs.Declaring.{ReadTo}
use Rattle.text.specs.Fronts.{Past}
use Rattle.text.specs.Progress.{Fails}
use Rattle.text.proofs.Contents.{byte_moved, no_byte, begins_other}
use Rattle.text.proofs.Mixed.{mixed_stops, mixed_closed, star_missing, star_read, star_unread, alone_ended, names_ended}
use Rattle.text.proofs.dtd.mixed.mixed_end.Goals as goal
use Rattle.text.proofs.dtd.mixed.mixed_end.Goals.{in_default-via-then-rest-lt1, in_default-via-else-rest-lt1+in_default-1, then-starred, else-starred}

pub returns-in_default : goal.returns-in_default
returns-in_default c ks bytes ds n ns h e r plain bar alone parts =
    let paren = no_byte c.rest.result.now 41 (λ some is. elim c.in_default.branch [ in_default-via-then-rest-lt1 w ↦ omega (arith, ltb-true) | in_default-via-else-rest-lt1+in_default-1 w ↦ omega arith ]) in
    subst (Fails dtd ks bytes ds) (sym c.misplaced.ensures)
    (mixed_stops ks bytes ds n ns h c.args.cursor.now e r plain bar (subst (Past (λ b. b == 41)) c.rest.ensures paren))

pub returns-in-false-false : goal.returns-in-false-false
returns-in-false-false c ks bytes ds n ns h e r plain bar alone parts =
    let closed = mixed_closed ks bytes ds n ns h c.args.cursor.now c.advance.new.self e r
    (byte_moved c.args.cursor.now c.advance.new.self 41 c.rest.result.now c.rest.ensures c.in-41.len_at_least (omega arith) c.advance.ensures) in
    subst (Fails dtd ks bytes ds) (sym c.misplaced-in-false-false.ensures)
    (elim c.if-starred.branch [
      | then-starred w ↦ absurd (false≢true (c.in-false-false.ensures.value ∙ sym c.starts_with-starred.ensures.value ∙ w.if-starred.true))
      | else-starred w ↦ star_missing ks bytes ds n ns c.if-starred.cursor e (subst (λ x. ReadTo ks bytes (starless ds n ns) false x e) (sym w.cursor-is) closed) (sym c.in-false-false.is-0 ∙ alone)
          (subst (λ x. Past (λ b. b == 42) (rest_of x)) (sym w.cursor-is) (subst (Past (λ b. b == 42)) c.rest-2.ensures (begins_other c.rest-2.result.now 42 c.in-false-false.ensures.value refl)))
    ])

pub returns-in-true-default : goal.returns-in-true-default
returns-in-true-default c ks bytes ds n ns h e r plain bar alone parts =
    let old = c.args.cursor.now in
    let closed = mixed_closed ks bytes ds n ns h old c.advance.new.self e r
    (byte_moved old c.advance.new.self 41 c.rest.result.now c.rest.ensures c.in-41.len_at_least (omega arith) c.advance.ensures) in
    alone_ended ks bytes ds n ns c.starts_with-starred.result c.advance.new.self c.if-starred.cursor e c.args.made.now c.nothing.new.self closed
    (elim c.if-starred.branch [
      | then-starred w ↦ star_read c.starts_with-starred.result c.advance.new.self _ c.if-starred.cursor c.rest-2.result.now c.rest-2.ensures c.starts_with-starred.ensures.value w.if-starred.true w.advance-then-starred.ensures w.cursor-is
      | else-starred w ↦ star_unread c.starts_with-starred.result c.advance.new.self c.if-starred.cursor c.rest-2.result.now c.rest-2.ensures c.starts_with-starred.ensures.value w.if-starred.false w.cursor-is
    ])
    (sym c.in-true-default.is-0 ∙ alone) parts c.nothing.ensures

pub returns-in-false-true : goal.returns-in-false-true
returns-in-false-true c ks bytes ds n ns h e r plain bar alone parts =
    let closed = mixed_closed ks bytes ds n ns h c.args.cursor.now c.advance.new.self e r
    (byte_moved c.args.cursor.now c.advance.new.self 41 c.rest.result.now c.rest.ensures c.in-41.len_at_least (omega arith) c.advance.ensures) in
    names_ended ks bytes ds n ns c.advance.new.self c.if-starred.cursor e c.args.made.now c.mark.new.self closed
    (elim c.if-starred.branch [
      | then-starred w ↦ star_read true c.advance.new.self _ c.if-starred.cursor c.rest-2.result.now c.rest-2.ensures c.in-false-true.ensures.value refl w.advance-then-starred.ensures w.cursor-is
      | else-starred w ↦ absurd (false≢true (sym w.if-starred.false ∙ c.starts_with-starred.ensures.value ∙ sym c.in-false-true.ensures.value))
    ])
    (sym c.in-false-true.is-0 ∙ alone) parts c.mark.ensures
