use Rattle.std.proofs.Common.{subst}
use Rattle.parts.specs.Sets.{In}
use Rattle.parts.proofs.SymbolSets.{in_both}
use Rattle.models.specs.Checked.{tree_of}
use Rattle.models.proofs.Conflicts.{none_exactly}
use Rattle.set.specs.Five.{order_rules_from}
use Rattle.set.specs.Holding.{symbols_in}
use Rattle.set.proofs.Sets.{formed_of}
use Rattle.set.proofs.Going.{left_start, left_found, left_more}
use Rattle.set.proofs.Ordering.{no_orders, standing_within, standing_rest, asked_from}
use Rattle.set.proofs.families.order.SymbolOrder.first_broken.Goals as goal

pub loop-symbol-init : goal.loop-symbol-init
loop-symbol-init g c =
    let expected = c.args.self.now.expected in
    let t = tree_of expected.model in
    let breaks = g.S.Subject.breaks c.args.subject.now in (
      left_start breaks (λ a. order_rules_from a t) (symbols_in t) _ _ _ expected.all c.intersection-rest.ensures (λ a low out. no_orders breaks a t (c.symbols.ensures a low out).1),
      standing_within t _ (formed_of expected.model)
          (λ s h. subst (λ n. In n s) expected.all (in_both _ _ s (rw c.intersection-rest.ensures at h)).0),
    )

pub returns-in-Some-breaks_orders : goal.returns-in-Some-breaks_orders
returns-in-Some-breaks_orders g c =
    let expected = c.args.self.now.expected in
    let t = tree_of expected.model in
    let breaks = g.S.Subject.breaks c.args.subject.now in
    let (left, standing) = c.loop-symbol.invariant in
    left_found breaks (λ a. order_rules_from a t) (symbols_in t) _ _ c.in-Some.symbol left c.in-Some.ensures _
    (asked_from t _ _ c.in-Some.symbol standing c.in-Some.ensures breaks _ _
    (formed_of expected.model) ((none_exactly t).0 expected.free) c.not_after-others.ensures c.in-Some-breaks_orders.ensures)

pub loop-symbol-preserved : goal.loop-symbol-preserved
loop-symbol-preserved g c =
    let expected = c.args.self.now.expected in
    let t = tree_of expected.model in
    let breaks = g.S.Subject.breaks c.args.subject.now in
    let (left, standing) = c.loop-symbol.invariant in (
      left_more breaks (λ a. order_rules_from a t) (symbols_in t) _ _ c.in-Some.symbol left c.in-Some.ensures
          (asked_from t _ _ c.in-Some.symbol standing c.in-Some.ensures breaks _ _
          (formed_of expected.model) ((none_exactly t).0 expected.free) c.not_after-others.ensures c.in_default-breaks_orders.ensures),
      standing_rest t _ _ c.in-Some.symbol standing c.in-Some.ensures,
    )
