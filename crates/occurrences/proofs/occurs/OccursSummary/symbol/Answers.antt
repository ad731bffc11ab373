use Rattle.std.proofs.Common.{[]}
use Rattle.models.proofs.Counted.{counted_same}
use Rattle.occurrences.proofs.Fewest.{symbol_fewest}
use Rattle.occurrences.proofs.Mosts.{symbol_most}
use Rattle.occurrences.proofs.occurs.OccursSummary.symbol.Goals as goal

pub returns-then-symbol-self : goal.returns-then-symbol-self
returns-then-symbol-self c low =
    let same = c.if-symbol-self.true in (
      (1, c.from.ensures, symbol_fewest _ c.args.symbol same),
      (1, c.from-then-symbol-self.ensures, symbol_most _ c.args.symbol 1 (counted_same _ c.args.symbol [] same)),
      (rw c.every.ensures at c.symbol-every.ensures) low,
    )
