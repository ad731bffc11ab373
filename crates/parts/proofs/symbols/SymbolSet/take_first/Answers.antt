use Rattle.std.proofs.Common.{refl, arith, subst, w64, rules}
use Rattle.std.proofs.lemmas.Nat.Bits.{bit_at-trailing_zeros, bit_at_clear_same, bit_at_clear_other}
use Rattle.parts.specs.Sets.{EmptyIs}
use Rattle.parts.proofs.SymbolSets.{in_some}
use Rattle.parts.proofs.Taking.{none_in, first_below}
use Rattle.parts.proofs.symbols.SymbolSet.take_first.Goals as goal

pub returns-then-is_empty : goal.returns-then-is_empty
returns-then-is_empty c = (none_in c.args.self.now.bits (subst (λ b. EmptyIs b c.args.self.now.bits) c.if-is_empty.true c.is_empty.ensures), refl)

pub returns : goal.returns
returns c =
    let set = c.args.self.now.bits in
    let some = in_some set (subst (λ b. EmptyIs b set) c.if-is_empty.false c.is_empty.ensures) in
    let (within, here, below) = bit_at-trailing_zeros w64 set some (search rules) in
    first_below set _ _ here below (bit_at_clear_same w64 set _ within) (λ i small ne. bit_at_clear_other w64 set _ within i small ne) 64 (omega arith) within
