use Rattle.std.proofs.Common.{map, is_ok, sym, ap, ◌∙◌}
use Rattle.std.proofs.ResultArms.{chosen}
use Rattle.seasons.specs.Calls.{asked}
use Rattle.runner.specs.Scripts.{asked_of}
use Rattle.runner.proofs.Turning.{asked_none, asked_some}
use Rattle.runner.proofs.asking.set_calls.Goals as goal
use Rattle.runner.proofs.asking.set_calls.Goals.{in-Some+in_ok-push, in_default}

pub loop-entry-preserved : goal.loop-entry-preserved
loop-entry-preserved c =
    let es = c.args.entries.now in
    let n = c.loop-entry.entry-index in
    let e = c.entry-item.result in
    elim c.match-set_call.branch [
      | in-Some+in_ok-push w ↦
          let pushed = chosen _ _ _ _ w.push.ensures.items (ap is_ok w.in_ok-push.was) in
          ap (λ calls. map asked calls.items) w.calls-is ∙ ap (map asked) pushed ∙ asked_some es n e c.loop-entry-test.true c.loop-entry.calls.items w.in-Some.call c.loop-entry.invariant
          (ap (λ x. asked_of x.call) (sym c.entry-item.is) ∙ w.in-Some.ensures)
      | in_default w ↦
          ap (λ calls. map asked calls.items) w.calls-is ∙ asked_none es n e c.loop-entry-test.true c.loop-entry.calls.items c.loop-entry.invariant
          (ap (λ x. asked_of x.call) (sym c.entry-item.is) ∙ w.in_default.ensures)
    ]
