use Rattle.std.proofs.Common.{subst, refl, Ok}
use Rattle.grammar.specs.Words.Words.{name}
use Rattle.grammar.specs.Machine.Named.{kid}
use Rattle.text.specs.Declaring.{GroupOpened, OneOver}
use Rattle.text.proofs.Inner.{name_wanted, group_begun, named_parts, after_member, member_fails}
use Rattle.text.proofs.dtd.children.member.Goals as goal

pub returns-in_err-opens-clause-read : goal.returns-in_err-opens-clause-read
returns-in_err-opens-clause-read c ks bytes ds n w =
    member_fails ks bytes ds n c.in_err-opens.field-0.0 c.from_residual.result c.opens.new.cursor c.args.elements.now c.args.made.now c.opens.new.groups
    (c.in_err-opens.ensures.opened ks bytes ds n w.outer w.left w.spaced c.args.elements.now w.read w.groups) c.from_residual.ensures.1

pub returns-then-branch-clause-read : goal.returns-then-branch-clause-read
returns-then-branch-clause-read c ks bytes ds n w =
    group_begun ks bytes ds n w.outer w.left w.spaced c.opens.new.cursor c.args.elements.now c.args.made.now c.opens.new.groups w.parts
    (subst (λ t. GroupOpened ks bytes ds n w.outer w.left w.spaced (Ok t) c.opens.new.cursor c.args.elements.now c.opens.new.groups) c.if-branch.true
    (c.in_ok-opens.ensures.opened ks bytes ds n w.outer w.left w.spaced c.args.elements.now w.read w.groups))

pub returns-in_err-symbol-clause-read : goal.returns-in_err-symbol-clause-read
returns-in_err-symbol-clause-read c ks bytes ds n w =
    let closed = subst (λ t. GroupOpened ks bytes ds n w.outer w.left w.spaced (Ok t) c.opens.new.cursor c.args.elements.now c.opens.new.groups) c.if-branch.false
    (c.in_ok-opens.ensures.opened ks bytes ds n w.outer w.left w.spaced c.args.elements.now w.read w.groups) in
    let stayed = subst (λ t. OneOver (Ok t) c.args.cursor.now c.opens.new.cursor) c.if-branch.false c.in_ok-opens.ensures.over in
    member_fails ks bytes ds n c.in_err-symbol.field-0.0 c.from_residual-in_err-symbol.result c.child.new.cursor c.child.new.elements c.args.made.now c.opens.new.groups
    (c.in_err-symbol.ensures.read ks bytes (kid ds n w.outer w.left) w.spaced tt closed.0
    (name_wanted ks bytes ds n c.args.cursor.now c.opens.new.cursor c.args.elements.now c.args.made.now c.args.groups.now w stayed closed.2))
    c.from_residual-in_err-symbol.ensures.1

pub returns-clause-read : goal.returns-clause-read
returns-clause-read c ks bytes ds n w =
    let closed = subst (λ t. GroupOpened ks bytes ds n w.outer w.left w.spaced (Ok t) c.opens.new.cursor c.args.elements.now c.opens.new.groups) c.if-branch.false
    (c.in_ok-opens.ensures.opened ks bytes ds n w.outer w.left w.spaced c.args.elements.now w.read w.groups) in
    let stayed = subst (λ t. OneOver (Ok t) c.args.cursor.now c.opens.new.cursor) c.if-branch.false c.in_ok-opens.ensures.over in
    let (m, read, is) = c.in_ok-symbol.ensures.read ks bytes (kid ds n w.outer w.left) w.spaced tt closed.0
    (name_wanted ks bytes ds n c.args.cursor.now c.opens.new.cursor c.args.elements.now c.args.made.now c.args.groups.now w stayed closed.2) in
    after_member ks bytes ds n c.goes_on.result c.goes_on.new.cursor c.child.new.elements c.goes_on.new.made c.goes_on.new.groups
    (c.goes_on.ensures.read ks bytes ds n w.outer w.left (name m) c.child.new.elements read refl closed.1
    (named_parts w.outer w.left m c.in_ok-symbol.symbol c.args.elements.now c.child.new.elements c.args.made.now c.symbol.new.self w.parts c.in_ok-symbol.ensures.grow is c.symbol.ensures))
