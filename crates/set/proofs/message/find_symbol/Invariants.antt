use Rattle.std.proofs.Common.{◌≡◌, ◌≤◌, take}
use Rattle.models.specs.Messages.{occurrences}
use Rattle.set.specs.Asking.{LastAt}
use Rattle.set.proofs.message.find_symbol.Given as goal

abbrev pub invariant-loop-place : goal.invariant-loop-place
invariant-loop-place l = (l.count ≡ occurrences l.symbol (take l.place l.message)) × (l.count ≤ l.place) × LastAt l.symbol (take l.place l.message) l.last
