use Rattle.std.proofs.Common.{◌≡◌, length, arith}
use Rattle.report.proofs.Reported.{sent_more}
use Rattle.report.proofs.report.write_sent.Goals as goal

pub loop-element-preserved : goal.loop-element-preserved
loop-element-preserved g c =
    let size : length c.loop-element.sheet ≡ 8192 = omega (arith, c.loop-element.auto.sheet, c.requires) in
    sent_more c.args.names.now c.args.sent c.args.expected c.loop-element.element-index c.element-item.result c.compare_element-finding.result _ _ _ c.loop-element.tally c.with-tally.result
    c.loop-element-test.true c.element-item.is (c.compare_element-finding.ensures size) c.in_ok-writeln.ensures.bytes c.with-tally.ensures c.loop-element.invariant
