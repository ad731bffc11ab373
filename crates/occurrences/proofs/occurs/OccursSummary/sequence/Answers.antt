use Rattle.occurrences.proofs.occurs.OccursSummary.sequence.Goals as goal

pub returns : goal.returns
returns c t u formed f g = (
  (c.fewest_side_by_side.ensures _ t u formed.0 formed.1 f g).0,
  (c.most_side_by_side.ensures _ t u formed.0 formed.1 f.1 g.1).0,
  (rw c.every.ensures at c.sequence.ensures) t u formed f.2 g.2,
)
