use Rattle.std.proofs.Common.{sym, subst, length, ◌≤◌}
use Rattle.grammar.specs.Notations.Notation.{dtd}
use Rattle.text.specs.Progress.{Fails}
use Rattle.text.proofs.Members.{separator_missing, separator_other, separator_there, separator_taken}
use Rattle.text.proofs.Fronted.{one_further}
use Rattle.text.proofs.dtd.children.separated.Goals as goal

pub returns-in_default-clause-read : goal.returns-in_default-clause-read
returns-in_default-clause-read c ks bytes ds n o l w h e r blank close past is left g room parts =
    subst (Fails dtd ks bytes ds) (sym c.misplaced.ensures) (separator_missing ks bytes ds n o l w h e _ c.rest.result.now r blank close past c.rest.ensures c.in_default.ensures)

pub returns-then-not-may_go_on-clause-read : goal.returns-then-not-may_go_on-clause-read
returns-then-not-may_go_on-clause-read c ks bytes ds n o l w h e r blank close past is left g room parts =
    subst (Fails dtd ks bytes ds) (sym c.misplaced-then-not-may_go_on.ensures)
    (separator_other ks bytes ds n o l w h e _ c.rest.result.now c.in-Some.join c.args.before c.may_go_on.result r blank close past c.rest.ensures is c.in-Some.ensures left c.may_go_on.ensures c.if-not-may_go_on.true)

pub advance-requires : goal.advance-requires
advance-requires c = subst (λ xs. 1 ≤ length xs) c.rest.ensures (separator_there c.rest.result.now c.in-Some.join c.in-Some.ensures)

pub returns-clause-read : goal.returns-clause-read
returns-clause-read c ks bytes ds n o l w h e r blank close past is left g room parts =
    separator_taken ks bytes ds n o l w h e c.args.cursor.now c.advance.new.self c.rest.result.now c.in-Some.join c.args.before c.may_go_on.result _ _ _ _ _ r c.rest.ensures is c.in-Some.ensures left
    c.may_go_on.ensures c.if-not-may_go_on.false g room parts c.joined.ensures c.advance.ensures c.push.ensures

pub returns-clause-further : goal.returns-clause-further
returns-clause-further c =
    one_further _ c.advance.new.self (subst (λ xs. 1 ≤ length xs) c.rest.ensures (separator_there c.rest.result.now c.in-Some.join c.in-Some.ensures)) c.advance.ensures
