use Rattle.occurrences.proofs.occurs.OccursSummary.interleave.Goals as goal

pub returns : goal.returns
returns c t u formed f g = (
  (c.fewest_side_by_side.ensures _ t u formed.0 formed.1 f g).1,
  (c.most_side_by_side.ensures _ t u formed.0 formed.1 f.1 g.1).1,
  (rw c.every.ensures at c.interleave.ensures) t u formed f.2 g.2,
)
