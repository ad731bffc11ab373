use Rattle.set.proofs.Marking.{interleave_others}
use Rattle.set.proofs.precedence.NotAfterSummary.interleave.Goals as goal

pub returns : goal.returns
returns c l r formed f g free =
    let (p, u) = f free.0 in
    let (q, v) = g free.1 in
    rw c.union.ensures (c.interleave.ensures l r formed p q, interleave_others l r free.2 c.args.self.now.symbol _ _ u v)
