use Rattle.std.proofs.Common.{◌≡◌, map, take}
use Rattle.seasons.specs.Calls.{asked}
use Rattle.runner.specs.Turns.{asked_in}
use Rattle.runner.proofs.asking.set_calls.Given as goal

abbrev pub invariant-loop-entry : goal.invariant-loop-entry
invariant-loop-entry l = map asked l.calls.items ≡ asked_in (take l.entry-index l.entries)
