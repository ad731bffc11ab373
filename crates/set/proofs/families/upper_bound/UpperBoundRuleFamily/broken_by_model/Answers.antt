use Rattle.std.proofs.Common.{subst}
use Rattle.models.specs.Checked.{tree_of}
use Rattle.parts.specs.Sets.{EmptyIs}
use Rattle.set.proofs.Outside.{none_outside}
use Rattle.set.proofs.families.upper_bound.UpperBoundRuleFamily.broken_by_model.Goals as goal

pub returns-then-is_empty : goal.returns-then-is_empty
returns-then-is_empty c =
    rw (← c.args.self.now.expected.all)
    (none_outside (tree_of c.args.model.now) _ _ _ c.symbols_of.ensures.exact c.difference.ensures (subst (λ b. EmptyIs b c.difference.result.bits) c.if-is_empty.true c.is_empty.ensures))
