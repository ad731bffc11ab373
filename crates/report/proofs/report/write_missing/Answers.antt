use Rattle.std.proofs.Common.{◌+◌, ap, ◌∙◌, sym}
use Rattle.report.proofs.Reported.{missing_more, missing_passed, none_there, some_there}
use Rattle.report.proofs.report.write_missing.Goals as goal
use Rattle.report.proofs.report.write_missing.Goals.{then-is_none+in_ok-writeln, else-is_none}

pub loop-element-preserved : goal.loop-element-preserved
loop-element-preserved g c =
    elim c.if-is_none.branch [
      | then-is_none+in_ok-writeln w ↦
          rw (w.out-is, w.missing-is)
          (missing_more c.args.names.now c.args.sent c.args.expected c.loop-element.element-index c.element-item.result _ _ _ c.loop-element.missing c.loop-element-test.true
          c.element-item.is (none_there _ _ _ c.declaration_of.ensures c.is_none.ensures w.if-is_none.true) w.in_ok-writeln.ensures.bytes c.loop-element.invariant)
      | else-is_none w ↦
          rw (w.out-is, w.missing-is)
          (missing_passed c.args.names.now c.args.sent c.args.expected c.loop-element.element-index c.element-item.result _ _ c.loop-element.missing c.loop-element-test.true
          c.element-item.is (some_there _ _ _ c.declaration_of.ensures c.is_none.ensures w.if-is_none.false) c.loop-element.invariant)
    ]
