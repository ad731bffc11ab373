use Rattle.std.proofs.Common.{[], ◌∷◌, refl, sym, subst}
use Rattle.models.specs.Checked.{tree_of}
use Rattle.parts.specs.Sets.{In}
use Rattle.rules.specs.Rules.{SomeBreaks}
use Rattle.set.specs.Five.{order}
use Rattle.set.proofs.Sets.{formed_of}
use Rattle.set.proofs.Going.{left_start, left_more, kept_rule}
use Rattle.set.proofs.Subjects.{uncarried, reversed_breaks}
use Rattle.set.proofs.subject.messages_of.MessagesOfSubject.breaks_orders.Goals as goal

pub loop-other-init : goal.loop-other-init
loop-other-init c =
    let all = c.args.self.now in
    let t = tree_of all.model in
    left_start (SomeBreaks t) (λ b. order c.args.symbol b ∷ []) c.args.others.bits _ _ _ refl c.intersection-rest.ensures
    (λ b low out. uncarried t (formed_of all.model) c.args.symbol b (λ h. out (subst (λ n. In n b) (sym all.all) h)))

pub loop-other-preserved : goal.loop-other-preserved
loop-other-preserved c =
    let t = tree_of c.args.self.now.model in
    left_more (SomeBreaks t) (λ b. order c.args.symbol b ∷ []) c.args.others.bits _ _ c.in-Some.other c.loop-other.invariant c.in-Some.ensures
    (kept_rule (SomeBreaks t) (order c.args.symbol c.in-Some.other) _ (reversed_breaks t c.args.symbol c.in-Some.other _ c.order_of.ensures.0) c.if-order_of.false)
