use Rattle.std.proofs.Common.{subst, Ok}
use Rattle.text.specs.Declaring.{MemberRead}
use Rattle.text.proofs.Inner.{next_wanted, ended_fails, grow_then}
use Rattle.text.proofs.dtd.children.children.Goals as goal

pub returns-in_err-member-clause-ended : goal.returns-in_err-member-clause-ended
returns-in_err-member-clause-ended c ks bytes ds n h r blank hash made =
    ended_fails ks bytes ds n c.in_err-member.field-0.0 c.from_residual.result c.member.new.cursor c.member.new.elements c.member.new.made
    (c.in_err-member.ensures.read ks bytes ds n (c.loop-cursor.invariant.1 ks bytes ds n h r blank hash made)) c.from_residual.ensures.1

pub returns-in_err-member-clause-grow : goal.returns-in_err-member-clause-grow
returns-in_err-member-clause-grow c = grow_then c.args.elements.now c.loop-cursor.elements c.member.new.elements c.loop-cursor.invariant.0 c.member.ensures.grow

pub loop-cursor-preserved : goal.loop-cursor-preserved
loop-cursor-preserved c = (
  grow_then c.args.elements.now c.loop-cursor.elements c.member.new.elements c.loop-cursor.invariant.0 c.member.ensures.grow,
  λ ks bytes ds n h r blank hash made.
      next_wanted ks bytes ds n c.skip_blanks.result c.member.new.cursor c.skip_blanks.new.self c.member.new.elements c.member.new.made c.member.new.groups
      (subst (λ t. MemberRead ks bytes ds n (Ok t) c.member.new.cursor c.member.new.elements c.member.new.made c.member.new.groups) c.if-branch.true
      (c.in_ok-member.ensures.read ks bytes ds n (c.loop-cursor.invariant.1 ks bytes ds n h r blank hash made)))
      c.skip_blanks.ensures,
)

pub returns-clause-ended : goal.returns-clause-ended
returns-clause-ended c ks bytes ds n h r blank hash made =
    subst (λ t. MemberRead ks bytes ds n (Ok t) c.member.new.cursor c.member.new.elements c.member.new.made c.member.new.groups) c.if-branch.false
    (c.in_ok-member.ensures.read ks bytes ds n (c.loop-cursor.invariant.1 ks bytes ds n h r blank hash made))

pub returns-clause-grow : goal.returns-clause-grow
returns-clause-grow c = grow_then c.args.elements.now c.loop-cursor.elements c.member.new.elements c.loop-cursor.invariant.0 c.member.ensures.grow
