use Rattle.std.proofs.Common.{rules, ◌==◌, subst, arith}
use Rattle.text.specs.Fronts.{Past}
use Rattle.text.proofs.Fronted.{other_there}
use Rattle.text.proofs.Going.{past_either, all_ended, behind, blanks_past, group_ends, onward_then, onward_moved, onward_blanks, onward_mark}
use Rattle.text.proofs.dtd.children.goes_on.Goals.{in_default-rest-via-then-rest-lt1, in_default-rest-via-else-rest-lt1+in_default-1}
use Rattle.text.proofs.dtd.children.goes_on.Goals as goal

pub returns-in_default-clause-read : goal.returns-in_default-clause-read
returns-in_default-clause-read c ks bytes ds n o l w e r plain g parts =
    all_ended ks bytes ds n c.suffixed.new.cursor e c.suffixed.new.made c.loop-before.groups c.pop.new.self
    (past_either ks bytes ds n c.loop-before.cursor c.suffixed.new.cursor e c.loop-before.made c.suffixed.new.made c.loop-before.groups (c.loop-before.invariant.1 ks bytes ds n o l w e r plain g parts) c.suffixed.ensures)
    c.in_default.ensures

pub returns-in_default-rest-clause-read : goal.returns-in_default-rest-clause-read
returns-in_default-rest-clause-read c ks bytes ds n o l w e r plain g parts =
    let at = behind ks bytes ds n c.in-Some.before c.skip_blanks.result c.suffixed.new.cursor c.skip_blanks.new.self e c.suffixed.new.made c.loop-before.groups c.pop.new.self
    (past_either ks bytes ds n c.loop-before.cursor c.suffixed.new.cursor e c.loop-before.made c.suffixed.new.made c.loop-before.groups (c.loop-before.invariant.1 ks bytes ds n o l w e r plain g parts) c.suffixed.ensures)
    c.in-Some.ensures c.skip_blanks.ensures in
    c.separated.ensures.read ks bytes ds n at.o at.l at.w at.h e at.read (blanks_past c.skip_blanks.result c.suffixed.new.cursor c.skip_blanks.new.self c.skip_blanks.ensures)
    (subst (Past (λ b. b == 41)) c.rest.ensures
    (elim c.in_default-rest.branch [
      | in_default-rest-via-then-rest-lt1 w ↦ search rules
      | in_default-rest-via-else-rest-lt1+in_default-1 w ↦ other_there c.rest.result.now 41 (λ same. absurd (omega arith))
    ]))
    at.past at.member at.left at.groups at.room at.parts

pub loop-before-preserved : goal.loop-before-preserved
loop-before-preserved c = (
  onward_then c.args.cursor.now c.skip_blanks.new.self c.advance.new.self
      (onward_then c.args.cursor.now c.suffixed.new.cursor c.skip_blanks.new.self
      (onward_then c.args.cursor.now c.loop-before.cursor c.suffixed.new.cursor c.loop-before.invariant.0
      (onward_mark c.loop-before.cursor c.suffixed.new.cursor c.loop-before.made c.suffixed.new.made c.suffixed.ensures))
      (onward_blanks c.skip_blanks.result c.suffixed.new.cursor c.skip_blanks.new.self c.skip_blanks.ensures))
      (onward_moved c.skip_blanks.new.self c.advance.new.self _ c.advance.ensures),
  λ ks bytes ds n o l w e r plain g parts.
      group_ends ks bytes ds n c.in-Some.before c.skip_blanks.new.self c.advance.new.self e c.suffixed.new.made c.joined.new.made c.pop.new.self c.rest.result.now
      (behind ks bytes ds n c.in-Some.before c.skip_blanks.result c.suffixed.new.cursor c.skip_blanks.new.self e c.suffixed.new.made c.loop-before.groups c.pop.new.self
      (past_either ks bytes ds n c.loop-before.cursor c.suffixed.new.cursor e c.loop-before.made c.suffixed.new.made c.loop-before.groups (c.loop-before.invariant.1 ks bytes ds n o l w e r plain g parts) c.suffixed.ensures)
      c.in-Some.ensures c.skip_blanks.ensures)
      c.rest.ensures c.in-41.len_at_least (omega arith) c.advance.ensures c.joined.ensures,
)
