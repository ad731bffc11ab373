use Rattle.occurrences.proofs.Fewest.{nonempty_fewest}
use Rattle.occurrences.proofs.Mosts.{nonempty_most}
use Rattle.occurrences.proofs.occurs.OccursSummary.nonempty.Goals as goal

pub returns : goal.returns
returns c t formed f = (
  nonempty_fewest _ t c.args.of.fewest f.0,
  nonempty_most _ t c.args.of.most formed f.1,
  (rw c.every.ensures at c.nonempty.ensures) t formed f.2,
)
