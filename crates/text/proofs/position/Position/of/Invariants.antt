use Rattle.std.proofs.Common.{◌≡◌, ◌+◌, ◌≤◌, drop}
use Rattle.text.specs.Positions.{position_of, walk}
use Rattle.text.proofs.position.Position.of.Given as goal

abbrev pub invariant-loop-at : goal.invariant-loop-at
invariant-loop-at l = record {
  same : position_of l.before ≡ walk l.position (drop l.at l.before);
  line : l.position.line ≤ l.at + 1;
  column : l.position.column ≤ l.at + 1;
}
