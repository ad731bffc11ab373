use Rattle.std.proofs.Common.{◌≡◌, ◌≤◌, ◌-◌}
use Rattle.set.specs.declared.state.State.TheVariants.{DrawnUp}
use Rattle.seasons.specs.Runs.{Runs, Beyond}
use Rattle.seasons.proofs.season.run.Given as goal

abbrev pub invariant-loop-place : goal.invariant-loop-place
invariant-loop-place g l =
    (l.place ≤ l.end)
    × Beyond l.place l.fn.answers l.answers
    × (l.set.sheet.ghost_name ≡ l.initial.set.sheet.ghost_name)
    × Runs g.F.RuleFamily.rules l.fn.sheet l.calls l.answers l.place DrawnUp l.set.sheet.now l.set.slots.at

abbrev pub decreases-loop-place : goal.decreases-loop-place
decreases-loop-place g l = l.end - l.place
