use Rattle.std.proofs.Common.{sym, rules}
use Rattle.parts.proofs.Sizes.{size_is}
use Rattle.parts.proofs.symbols.SymbolSet.len.Goals as goal

pub returns : goal.returns
returns c = sym (size_is c.args.self.now.bits (search rules))
