use Rattle.models.proofs.Walks.{Walked}
use Rattle.models.proofs.model.conflict.first_conflict.Given as goal

abbrev pub invariant-loop-place : goal.invariant-loop-place
invariant-loop-place l = Walked l.part-items l.place l.seen.bits l.after_symbol
