use Rattle.std.proofs.Common.{arith, sym, inl, inr, ◌∙◌}
use Rattle.text.proofs.Bits.{behind, broken_end, broken_byte, broken_dashes}
use Rattle.text.proofs.cursor.bytes.behind_dash.Goals as goal

pub returns-in_default-rest : goal.returns-in_default-rest
returns-in_default-rest c = broken_dashes c.args.text.now (omega arith) (omega arith) (inl c.in_default-rest.len_below)

pub returns-in_default-rest-2 : goal.returns-in_default-rest-2
returns-in_default-rest-2 c = broken_dashes c.args.text.now (omega arith) (omega arith) (inr (omega arith))

pub returns-in-len1-up : goal.returns-in-len1-up
returns-in-len1-up c = behind c.args.text.now c.in-len1-up.len_at_least (omega arith) (sym c.is_char.ensures ∙ c.if-is_char.true)

pub returns-in_default : goal.returns-in_default
returns-in_default c = broken_end c.args.text.now c.in_default.len_below

pub returns-in_default-2 : goal.returns-in_default-2
returns-in_default-2 c = broken_byte c.args.text.now (omega arith) (omega arith) (sym c.is_char.ensures ∙ c.if-is_char.false)
