use Rattle.std.proofs.Common.{List}
use Rattle.parts.specs.declared.part.Part.{Part}
use Rattle.set.specs.declared.state.State.TheVariants.{Issued}
use Rattle.seasons.specs.Runs.{Runs, Beyond}
use Rattle.seasons.proofs.season.run_issued.Given as goal

abbrev pub invariant-loop-place : goal.invariant-loop-place
invariant-loop-place g l =
    Beyond l.place l.fn.answers l.answers
    × ((first : List Part) → Runs g.F.RuleFamily.rules first l.calls l.fn.answers l.from Issued l.set.sheet.now l.set.slots.at
    → Runs g.F.RuleFamily.rules first l.calls l.answers l.place Issued l.set.sheet.now l.set.slots.at)
