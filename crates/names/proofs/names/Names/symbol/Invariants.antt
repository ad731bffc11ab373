use Rattle.std.proofs.Common.{◌≡◌, false, take}
use Rattle.names.specs.Numbering.{is_known}
use Rattle.names.proofs.names.Names.symbol.Given as goal

-- the names before this place are others
abbrev pub invariant-loop-place : goal.invariant-loop-place
invariant-loop-place l = is_known (take l.place l.known-items) l.name ≡ false
