use Rattle.std.proofs.Common.{◌*◌, subst}
use Rattle.occurrences.specs.Figures.{FewestIs}
use Rattle.summaries.proofs.Carried.{carries_count}
use Rattle.occurrences.proofs.Fewest.{always_has, without, every_repeated, once_repeated}
use Rattle.occurrences.proofs.occurs.fewest_repeated.Goals as goal

pub returns-in_err-fewest : goal.returns-in_err-fewest
returns-in_err-fewest c s high t formed h =
    rw c.from_residual.ensures (λ k. subst (FewestIs s t) c.in_err-fewest.was h.0 (carries_count t c.args.low high s k))

pub returns-then-of : goal.returns-then-of
returns-then-of c s high t formed h =
    let (n, e, fewest) = subst (FewestIs s t) c.in_ok-fewest.was h.0 in
    let every = rw c.if-of.true at (always_has s t c.args.of.every.0 n formed.0 fewest h.2.0) in
    (c.args.low * n, c.times.ensures n formed.1.0 e, every_repeated s t c.args.low high n formed.1 every fewest)

pub returns-else-of : goal.returns-else-of
returns-else-of c s high t formed h =
    let (n, e, fewest) = subst (FewestIs s t) c.in_ok-fewest.was h.0 in
    let lacks = rw c.if-of.false at (always_has s t c.args.of.every.0 n formed.0 fewest h.2.0) in
    (n, e, once_repeated s t c.args.low high n formed.1 (without s t lacks) fewest)
