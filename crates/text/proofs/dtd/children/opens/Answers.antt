use Rattle.std.proofs.Common.{sym, subst, arith}
use Rattle.grammar.specs.Notations.Notation.{dtd}
use Rattle.text.specs.Progress.{Fails}
use Rattle.text.proofs.Groups.{group_too_deep, group_opened}
use Rattle.text.proofs.dtd.children.opens.Goals as goal

pub returns-then-len-ge-MOST_GROUPS-clause-opened : goal.returns-then-len-ge-MOST_GROUPS-clause-opened
returns-then-len-ge-MOST_GROUPS-clause-opened c ks bytes ds n o l h e r g =
    subst (Fails dtd ks bytes ds) (sym c.at.ensures)
    (group_too_deep ks bytes ds n o l h e _ c.args.groups.now c.rest.result.now c.len.result r g c.rest.ensures c.in-40.len_at_least (omega arith) c.len.ensures c.if-len-ge-MOST_GROUPS.true)

pub returns-clause-opened : goal.returns-clause-opened
returns-clause-opened c ks bytes ds n o l h e r g =
    group_opened ks bytes ds n o l h e c.args.cursor.now c.advance.new.self c.args.groups.now c.push.new.self c.rest.result.now c.len.result c.push.result r g c.rest.ensures c.in-40.len_at_least
    (omega arith) c.len.ensures c.if-len-ge-MOST_GROUPS.false c.advance.ensures c.push.ensures
