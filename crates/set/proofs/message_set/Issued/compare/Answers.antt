use Rattle.std.proofs.Common.{length}
use Rattle.models.specs.Checked.{tree_of}
use Rattle.rules.specs.Rules.{SomeBreaks}
use Rattle.store.specs.Windows.{model_at}
use Rattle.set.proofs.Fixing.{compare_only}
use Rattle.set.proofs.Leading.{compare_steps}
use Rattle.set.proofs.Naming.{five_asked, compare_ends}
use Rattle.set.proofs.message_set.Issued.compare.Goals as goal

pub returns-clause-answer : goal.returns-clause-answer
returns-clause-answer g c =
    let store = c.args.self.now in
    let sent = c.in_ok-sent.sent in
    let expected = c.in_ok-sent.expected in
    let (asked, sent_is, expected_is) = c.in_ok-sent.ensures in
    let f = c.five.result in
    let behind = g.F.RuleFamily.rules c.args.behind.now in
    let sent_at = model_at store.sheet.now store.slots.at c.args.sent in
    let expected_at = model_at store.sheet.now store.slots.at c.args.expected in
    compare_only behind (length store.sheet.now) sent_at expected_at c.args.sent c.args.expected _
    (compare_ends behind (length store.sheet.now) sent_at expected_at c.args.sent c.args.expected
    sent expected c.broken_by_model.result asked sent_is expected_is
    (five_asked (SomeBreaks (tree_of sent)) (tree_of expected.model) behind f.first.expected f.second.first.expected f.second.second.first.expected f.second.second.second.first.expected f.second.second.second.second.expected
    c.broken_by_model.result c.five.ensures
    (rw (c.of-rules.ensures.made.0, c.of-rules.ensures.made.1) at c.broken_by_model.ensures)))

pub returns-clause-law : goal.returns-clause-law
returns-clause-law g c = compare_steps _ _ _ _ _ _ ((returns-clause-answer g c).0)
