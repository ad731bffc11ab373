use Rattle.rules.proofs.Firsts.{first_or}
use Rattle.set.proofs.families.co_occurrence.FirstBrokenSummary.choice.Goals as goal

pub returns : goal.returns
returns g c l r formed left right = (
  c.choice.ensures l r formed left.0 right.0,
  c.choice-2.ensures l r formed left.1 right.1,
  rw c.or.ensures (first_or _ _ _ _ _ left.2 right.2),
)
