use Rattle.occurrences.proofs.occurs.OccursSummary.count.Goals as goal

pub returns : goal.returns
returns c t formed f = (
  c.fewest_repeated.ensures _ c.args.repeats.high t formed f,
  c.most_repeated.ensures _ c.args.repeats.low t formed f.1,
  (rw c.every.ensures at c.count.ensures) t formed f.2,
)
