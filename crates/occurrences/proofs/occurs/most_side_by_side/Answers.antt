use Rattle.std.proofs.Common.{◌+◌, subst}
use Rattle.occurrences.specs.Figures.{MostIs, Endless}
use Rattle.occurrences.specs.declared.figure.Most.TheVariants.{Ends}
use Rattle.occurrences.proofs.Mosts.{both_most, side_endless}
use Rattle.occurrences.proofs.Added.{flipped, for_both}
use Rattle.occurrences.proofs.occurs.most_side_by_side.Goals as goal

pub returns-in-NoEnd-default : goal.returns-in-NoEnd-default
returns-in-NoEnd-default c s l r formed_l formed_r f g =
    for_both s l r (Endless s) (λ u mix. side_endless s l r u mix formed_r (subst (MostIs s l) c.in-NoEnd-default.is-0 f))

pub returns-in-NoEnd-default-2 : goal.returns-in-NoEnd-default-2
returns-in-NoEnd-default-2 c s l r formed_l formed_r f g =
    for_both s l r (Endless s) (λ u mix. side_endless s r l u (flipped s l r u mix) formed_l (subst (MostIs s r) c.in-NoEnd-default.is-1 g))

pub returns-in-Ends-Ends : goal.returns-in-Ends-Ends
returns-in-Ends-Ends c s l r formed_l formed_r f g =
    let (a, d, h) = subst (MostIs s l) c.in-Ends-Ends.is-0 f in
    let (b, e, k) = subst (MostIs s r) c.in-Ends-Ends.is-1 g in
    for_both s l r (λ u. MostIs s u (Ends c.plus.result)) (λ u mix. (a + b, c.plus.ensures a b d e, both_most s l r u mix a b h k))
