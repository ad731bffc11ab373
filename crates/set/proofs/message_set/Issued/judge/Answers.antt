use Rattle.std.proofs.Common.{length}
use Rattle.models.specs.Checked.{tree_of}
use Rattle.rules.specs.Rules.{Breaks}
use Rattle.store.specs.Windows.{model_at}
use Rattle.set.proofs.Exact.{five_exact, five_fit, values_tell}
use Rattle.set.proofs.Fixing.{judge_only}
use Rattle.set.proofs.Leading.{judge_steps}
use Rattle.set.proofs.Naming.{five_alone, judge_ends}
use Rattle.set.proofs.message_set.Issued.judge.Goals as goal

pub returns-in_err-expected-clause-exact : goal.returns-in_err-expected-clause-exact
returns-in_err-expected-clause-exact c = (five_exact, five_fit)

pub returns-in_err-expected-clause-values : goal.returns-in_err-expected-clause-values
returns-in_err-expected-clause-values c = values_tell

pub returns-clause-exact : goal.returns-clause-exact
returns-clause-exact c = (five_exact, five_fit)

pub returns-clause-values : goal.returns-clause-values
returns-clause-values c = values_tell

pub returns-clause-answer : goal.returns-clause-answer
returns-clause-answer c =
    let store = c.args.self.now in
    let expected = c.in_ok-expected.expected in
    let (asked, is) = c.in_ok-expected.ensures in
    let f = c.five.result in
    let model = model_at store.sheet.now store.slots.at c.args.number in
    judge_only (length store.sheet.now) model c.args.number c.args.message.now _
    (judge_ends (length store.sheet.now) model c.args.number c.args.message.now expected c.broken_by_message.result asked is
    (five_alone (Breaks c.args.message.now) (tree_of expected.model) f.first.expected f.second.first.expected f.second.second.first.expected f.second.second.second.first.expected f.second.second.second.second.expected
    c.broken_by_message.result c.five.ensures c.broken_by_message.ensures))

pub returns-clause-law : goal.returns-clause-law
returns-clause-law c = judge_steps _ _ _ _ _ ((returns-clause-answer c).0)
