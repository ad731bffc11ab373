use Rattle.std.proofs.Common.{◌∙◌}
use Rattle.models.specs.Checked.{tree_of}
use Rattle.set.proofs.Sets.{formed_of}
use Rattle.set.proofs.Holding.{takes_empty_is}
use Rattle.set.proofs.families.lower_bound.LowerBound.wanted.Goals as goal

pub returns-then-empty_fits : goal.returns-then-empty_fits
returns-then-empty_fits c =
    let model = c.args.self.now.expected.model in
    takes_empty_is (tree_of model) _ (formed_of model) c.empty_fits.ensures.exact ∙ c.if-empty_fits.true

pub returns : goal.returns
returns c =
    let expected = c.args.self.now.expected in
    let model = expected.model in
    (takes_empty_is (tree_of model) _ (formed_of model) c.empty_fits.ensures.exact ∙ c.if-empty_fits.false, expected.all)
