use Rattle.occurrences.proofs.Mosts.{choice_larger}
use Rattle.occurrences.proofs.occurs.OccursSummary.choice.Goals as goal

pub returns : goal.returns
returns c t u formed f g = (
  c.fewest_of_either.ensures _ t u f.0 g.0,
  rw c.max.ensures (choice_larger _ t u c.args.left.most c.args.right.most f.1 g.1),
  (rw c.every.ensures at c.choice.ensures) t u formed f.2 g.2,
)
