use Rattle.std.proofs.Common.{◌≡◌, ◌<◌, false, true, length, sym, ap, ◌∙◌, subst, arith}
use Rattle.std.specs.Str.{bytes_eq}
use Rattle.names.specs.Kept.{HasSymbol}
use Rattle.names.proofs.Keeping.{first_at, not_yet}
use Rattle.names.proofs.names.Names.symbol.Goals as goal

pub returns-then-eq-clause-found : goal.returns-then-eq-clause-found
returns-then-eq-clause-found c =
    let ks = c.known-known-items.result.now in
    let n = c.args.name.now in
    let same : bytes_eq c.known-item.result n ≡ true = ap (λ xs. bytes_eq xs n) (sym c.bytes.ensures) ∙ sym c.eq.ensures ∙ c.if-eq.true in
    subst (λ xs. HasSymbol xs n c.loop-place.place × (c.loop-place.place < length xs)) c.known-known-items.ensures.names
    (first_at ks n c.known-item.result c.loop-place.place (omega arith) c.known-item.is c.loop-place.invariant same, omega arith)

pub loop-place-preserved : goal.loop-place-preserved
loop-place-preserved c =
    let n = c.args.name.now in
    let other : bytes_eq c.known-item.result n ≡ false = ap (λ xs. bytes_eq xs n) (sym c.bytes.ensures) ∙ sym c.eq.ensures ∙ c.if-eq.false in
    not_yet c.known-known-items.result.now n c.known-item.result c.loop-place.place (omega arith) c.known-item.is c.loop-place.invariant other
