use Rattle.std.proofs.Common.{arith, sym, ◌∙◌}
use Rattle.text.proofs.Bits.{alone}
use Rattle.text.proofs.cursor.bytes.next_part.Goals as goal

pub returns-in-len1-up : goal.returns-in-len1-up
returns-in-len1-up c = alone c.args.text.now c.in-len1-up.len_at_least (omega arith) (sym c.is_char.ensures ∙ c.if-is_char.true)
