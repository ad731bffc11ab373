use Rattle.set.proofs.precedence.NotAfterSummary.nonempty.Goals as goal

pub returns : goal.returns
returns c t formed f free = let (p, u) = f free in (c.nonempty.ensures t formed p, u)
