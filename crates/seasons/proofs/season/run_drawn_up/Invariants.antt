use Rattle.std.proofs.Common.{◌≡◌, List}
use Rattle.parts.specs.declared.part.Part.{Part}
use Rattle.set.specs.declared.state.State.TheVariants.{DrawnUp}
use Rattle.seasons.specs.Runs.{Runs, Beyond}
use Rattle.seasons.proofs.season.run_drawn_up.Given as goal

abbrev pub invariant-loop-place : goal.invariant-loop-place
invariant-loop-place g l =
    Beyond l.place l.fn.answers l.answers
    × (l.set.sheet.ghost_name ≡ l.fn.set.sheet.ghost_name)
    × ((first : List Part) → Runs g.F.RuleFamily.rules first l.calls l.fn.answers l.from DrawnUp l.fn.set.sheet.now l.fn.set.slots.at
    → Runs g.F.RuleFamily.rules first l.calls l.answers l.place DrawnUp l.set.sheet.now l.set.slots.at)
