use Rattle.parts.proofs.Sizes.{empty_by_size}
use Rattle.parts.proofs.symbols.SymbolSet.is_empty.Goals as goal

pub returns : goal.returns
returns c = rw c.len.ensures (empty_by_size c.args.self.now.bits)
