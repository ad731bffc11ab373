use Rattle.std.proofs.Common.{length}
use Rattle.models.specs.Checked.{tree_of}
use Rattle.parts.specs.Sets.{members}
use Rattle.set.specs.Five.{order_rules_from}
use Rattle.set.specs.Holding.{symbols_in}
use Rattle.set.proofs.Going.{Left}
use Rattle.set.proofs.Ordering.{Standing}
use Rattle.set.proofs.families.order.SymbolOrder.first_broken.Given as goal

abbrev pub invariant-loop-symbol : goal.invariant-loop-symbol
invariant-loop-symbol g l =
    let t = tree_of l.self.expected.model in
    Left (g.S.Subject.breaks l.subject) (λ a. order_rules_from a t) (symbols_in t) l.rest.bits × Standing t l.rest.bits

abbrev pub decreases-loop-symbol : goal.decreases-loop-symbol
decreases-loop-symbol g l = length (members l.rest.bits)
