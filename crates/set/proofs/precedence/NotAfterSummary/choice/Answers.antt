use Rattle.set.proofs.Marking.{choice_others}
use Rattle.set.proofs.precedence.NotAfterSummary.choice.Goals as goal

pub returns : goal.returns
returns c l r formed f g free =
    let (p, u) = f free.0 in
    let (q, v) = g free.1 in
    rw (c.union-2.ensures, c.union.ensures, c.union-across.ensures) (
      c.choice.ensures l r formed p q,
      choice_others l r free.2 c.args.self.now.symbol _ _ u v _ _ formed.0 formed.1 p q _ c.beside.ensures _ c.beside-2.ensures,
    )
