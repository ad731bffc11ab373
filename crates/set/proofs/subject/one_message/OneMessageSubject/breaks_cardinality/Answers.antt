use Rattle.std.proofs.Common.{arith}
use Rattle.std.proofs.lemmas.Bool.{ltb-true}
use Rattle.set.proofs.Subjects.{never_breaks, outside_bounds}
use Rattle.set.proofs.subject.one_message.OneMessageSubject.breaks_cardinality.Goals as goal

pub returns-then-count-gt0 : goal.returns-then-count-gt0
returns-then-count-gt0 c bounded = outside_bounds _ _ c.args.bounds _ c.find_symbol-count.ensures.count _ c.if-count-gt0.true c.is_between.ensures

pub returns-else-count-gt0 : goal.returns-else-count-gt0
returns-else-count-gt0 c bounded = (
  (λ e. absurd (omega (arith, ltb-true 0 _ e, c.if-count-gt0.false))),
  (λ breaks. absurd (never_breaks _ _ c.args.bounds _ c.find_symbol-count.ensures.count c.if-count-gt0.false breaks)),
)
