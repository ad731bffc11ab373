use Rattle.models.proofs.Conflicts.{symbol_free}
use Rattle.set.proofs.precedence.NotAfterSummary.count.Goals as goal

pub returns : goal.returns
returns c t formed f free = let (p, u) = f (symbol_free t free) in (c.count.ensures t formed p, u)
