use Rattle.std.proofs.Common.{◌≡◌, ◌⊎◌, Some, None, rules}
use Rattle.std.specs.Option.{option_or}
use Rattle.occurrences.specs.Figures.{FewestIs}
use Rattle.occurrences.proofs.Fewest.{lone_fewest, both_fewest}
use Rattle.occurrences.proofs.Added.{for_both}
use Rattle.occurrences.proofs.occurs.fewest_side_by_side.Goals as goal

pub returns-in_default : goal.returns-in_default
returns-in_default c s l r formed_l formed_r f g =
    let lone : (c.args.left.fewest ≡ None) ⊎ (c.args.right.fewest ≡ None) = search rules in
    rw c.or.ensures
    (for_both s l r (λ u. FewestIs s u (option_or c.args.left.fewest c.args.right.fewest))
    (λ u mix. lone_fewest s l r u mix formed_l formed_r c.args.left.fewest c.args.right.fewest lone f.0 g.0))

pub returns-in-Some-Some : goal.returns-in-Some-Some
returns-in-Some-Some c s l r formed_l formed_r f g =
    for_both s l r (λ u. FewestIs s u (Some c.fewest_of_both.result))
    (λ u mix. both_fewest s l r u mix formed_l formed_r c.args.left c.args.right _ _ _
    c.in-Some-Some.is-0 c.in-Some-Some.is-1 c.fewest_of_both.ensures f g)
