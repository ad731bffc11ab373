use Rattle.std.proofs.Common.{subst, sym}
use Rattle.names.specs.Kept.{AreKept}
use Rattle.names.proofs.Keeping.{symbol_at}
use Rattle.names.proofs.names.Names.name.Goals as goal

pub returns-clause-same : goal.returns-clause-same
returns-clause-same c =
    let ks = c.known.result.now in
    let (within, at) = c.in_ok-name.ensures.lookup.3 in
    let kept = subst AreKept (sym c.known.ensures.names) c.known.ensures.kept in
    rw (c.bytes.ensures, ← c.known.ensures.names) (symbol_at ks c.in_ok-name.name.now c.args.symbol kept within at)
