use Rattle.std.proofs.Common.{rules}
use Rattle.parts.proofs.SymbolSets.{difference_is}
use Rattle.parts.proofs.symbols.SymbolSet.difference.Goals as goal

pub returns : goal.returns
returns c = difference_is c.args.self.now.bits c.args.other.bits (search rules)
