use Rattle.std.proofs.Common.{min, subst, rules}
use Rattle.occurrences.specs.Figures.{FewestIs}
use Rattle.occurrences.proofs.Fewest.{choice_fewest}
use Rattle.occurrences.proofs.occurs.fewest_of_either.Goals as goal

pub returns-in-Some-Some : goal.returns-in-Some-Some
returns-in-Some-Some c s t u f g =
    let (a, d, h) = subst (FewestIs s t) c.in-Some-Some.is-0 f in
    let (b, e, k) = subst (FewestIs s u) c.in-Some-Some.is-1 g in
    (min a b, search rules, choice_fewest s t u a b h k)
