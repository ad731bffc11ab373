use Rattle.std.proofs.Common.{Err, ◌==◌, sym, subst, ◌∙◌, ap, arith}
use borrow.Author.Tests.{ltb-true}
use Rattle.std.proofs.lemmas.Result.{err_from_is_err_and}
use Rattle.text.specs.Declaring.{Ended}
use Rattle.text.specs.Fronts.{Past}
use Rattle.text.proofs.Contents.{byte_moved, no_byte, blanks_past, grow_on, grow_none}
use Rattle.text.proofs.Mixed.{mates_begin, mate_read, mate_fails, mate_smaller, mates_end, choice_made, none_made}
use Rattle.text.proofs.dtd.mixed.mixed.Goals as goal
use Rattle.text.proofs.dtd.mixed.mixed.Goals.{then-not-alone, else-not-alone, in_default, in_default-2}

pub loop-cursor-init : goal.loop-cursor-init
loop-cursor-init c = record {
  read = mates_begin _ _ _ _ _ c.skip_blanks.ensures;
  past = blanks_past _ c.args.cursor.now c.skip_blanks.new.self c.skip_blanks.ensures;
  grow = grow_none c.args.elements.now;
}

pub returns-in_err-symbol-clause-ended : goal.returns-in_err-symbol-clause-ended
returns-in_err-symbol-clause-ended c ks bytes ds n r none =
    let (f, is, same) = err_from_is_err_and c.from_residual.result c.from_residual.ensures.1 in
    let moved = byte_moved c.loop-cursor.cursor c.advance.new.self 124 c.rest.result.now c.rest.ensures c.in-124.len_at_least (omega arith) c.advance.ensures in
    let fails = mate_fails c.args.cursor.now c.loop-cursor.cursor c.advance.new.self c.skip_blanks-in-124.new.self c.child.new.cursor c.args.elements.now c.loop-cursor.elements c.child.new.elements c.args.made.now c.loop-cursor.made c.loop-cursor.alone _ c.in_err-symbol.field-0.0 c.loop-cursor.invariant.read moved c.skip_blanks-in-124.ensures c.in_err-symbol.ensures.read ks bytes ds n r none in
    subst (λ x. Ended ks bytes ds n x c.child.new.cursor c.child.new.elements c.loop-cursor.made) (sym (is ∙ ap Err same)) fails

pub returns-in_err-symbol-clause-grow : goal.returns-in_err-symbol-clause-grow
returns-in_err-symbol-clause-grow c = grow_on c.args.elements.now c.loop-cursor.elements c.child.new.elements c.loop-cursor.invariant.grow c.in_err-symbol.ensures.grow

pub loop-cursor-smaller : goal.loop-cursor-smaller
loop-cursor-smaller c =
    let moved = byte_moved c.loop-cursor.cursor c.advance.new.self 124 c.rest.result.now c.rest.ensures c.in-124.len_at_least (omega arith) c.advance.ensures in
    mate_smaller _ _ _ _ _ _ _ moved c.skip_blanks-in-124.ensures c.in_ok-symbol.ensures.onward c.skip_blanks-in-124-2.ensures

pub loop-cursor-preserved : goal.loop-cursor-preserved
loop-cursor-preserved c =
    let moved = byte_moved c.loop-cursor.cursor c.advance.new.self 124 c.rest.result.now c.rest.ensures c.in-124.len_at_least (omega arith) c.advance.ensures in
    record {
      read =
          mate_read c.args.cursor.now c.loop-cursor.cursor c.advance.new.self c.skip_blanks-in-124.new.self c.child.new.cursor c.skip_blanks-in-124-2.new.self c.args.elements.now c.loop-cursor.elements c.child.new.elements
          c.args.made.now c.loop-cursor.made c.symbol.new.self c.if-not-alone.made c.loop-cursor.alone _ _ c.in_ok-symbol.symbol c.loop-cursor.invariant.read moved c.skip_blanks-in-124.ensures
          c.in_ok-symbol.ensures.read c.in_ok-symbol.ensures.grow c.symbol.ensures
          (elim c.if-not-alone.branch [
            | then-not-alone w ↦ choice_made c.loop-cursor.alone c.symbol.new.self _ c.if-not-alone.made w.if-not-alone.true w.join.ensures w.made-is
            | else-not-alone w ↦ none_made c.loop-cursor.alone c.symbol.new.self c.if-not-alone.made w.if-not-alone.false w.made-is
          ]) c.skip_blanks-in-124-2.ensures;
      past = blanks_past _ c.child.new.cursor c.skip_blanks-in-124-2.new.self c.skip_blanks-in-124-2.ensures;
      grow = grow_on c.args.elements.now c.loop-cursor.elements c.child.new.elements c.loop-cursor.invariant.grow c.in_ok-symbol.ensures.grow;
    }

pub returns-clause-ended : goal.returns-clause-ended
returns-clause-ended c =
    let bar = no_byte c.rest.result.now 124 (λ some is. elim c.if-rest-lt1.branch [ in_default w ↦ omega (arith, ltb-true) | in_default-2 w ↦ omega (arith, ltb-true) ]) in
    mates_end c.args.cursor.now c.loop-cursor.cursor c.mixed_end.new.cursor c.args.elements.now c.loop-cursor.elements c.args.made.now c.loop-cursor.made c.mixed_end.new.made c.loop-cursor.alone
    c.mixed_end.result c.loop-cursor.invariant.read c.loop-cursor.invariant.past (subst (Past (λ b. b == 124)) c.rest.ensures bar) c.mixed_end.ensures

pub returns-clause-grow : goal.returns-clause-grow
returns-clause-grow c = c.loop-cursor.invariant.grow
