use Rattle.std.proofs.Common.{[], ◌∷◌, refl, inr}
use Rattle.models.specs.Checked.{tree_of}
use Rattle.set.specs.Bounded.{bounds_in}
use Rattle.set.specs.Five.{cardinality}
use Rattle.set.specs.Holding.{symbols_in}
use Rattle.set.proofs.Going.{left_start}
use Rattle.set.proofs.families.cardinality.Cardinality.first_broken.Goals as goal

pub loop-symbol-init : goal.loop-symbol-init
loop-symbol-init g c =
    let expected = c.args.self.now.expected in
    let t = tree_of expected.model in
    left_start (g.S.Subject.breaks c.args.subject.now) (λ s. cardinality s (bounds_in s t) ∷ []) (symbols_in t) _ _ _ expected.all c.intersection-rest.ensures
    (λ s low out. inr ((c.symbols.ensures s low out).0 (bounds_in s t), refl))
