use Rattle.std.proofs.Common.{[], ◌∷◌, length}
use Rattle.models.specs.Checked.{tree_of}
use Rattle.parts.specs.Sets.{members}
use Rattle.rules.specs.Rules.{SomeBreaks}
use Rattle.set.specs.Five.{order}
use Rattle.set.proofs.Going.{Left}
use Rattle.set.proofs.subject.messages_of.MessagesOfSubject.breaks_orders.Given as goal

abbrev pub invariant-loop-other : goal.invariant-loop-other
invariant-loop-other l = Left (SomeBreaks (tree_of l.self.model)) (λ b. order l.symbol b ∷ []) l.fn.others.bits l.rest.bits

abbrev pub decreases-loop-other : goal.decreases-loop-other
decreases-loop-other l = length (members l.rest.bits)
