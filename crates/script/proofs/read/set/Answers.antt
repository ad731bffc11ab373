use Rattle.std.proofs.Common.{ℕ, Some, sym, ap, ◌∙◌, arith}
use lib.Bits.{bit_or}
use Rattle.script.specs.Reads.{set_after}
use Rattle.script.proofs.Fields.{fields_left, next_left, none_left}
use Rattle.script.proofs.Sets.{after_some, after_none, plain_read, plain_has}
use Rattle.script.proofs.read.set.Goals as goal

pub returns-in_err-number-clause-read : goal.returns-in_err-number-clause-read
returns-in_err-number-clause-read c =
    let word = c.args.word.now in
    let old = c.loop-field.seen.bits in
    let field = c.in-Some.field in
    let next = next_left 44 c.loop-field.field-iterator c.next.new.self (omega arith) c.loop-field.invariant.0 field c.in-Some.ensures.steps in
    let none = after_none old field.now (fields_left 44 c.next.new.self) (sym c.in_err-number.ensures) in
    let is = c.from_residual.ensures ∙ sym (c.loop-field.invariant.1 ∙ ap (set_after old) next.1 ∙ none) in
    plain_read word _ is (sym c.eq.ensures ∙ c.if-eq.false)

pub loop-field-preserved : goal.loop-field-preserved
loop-field-preserved c =
    let old = c.loop-field.seen.bits in
    let field = c.in-Some.field in
    let x : ℕ = c.in_ok-number.field-0 in
    let rest = fields_left 44 c.next.new.self in
    let next = next_left 44 c.loop-field.field-iterator c.next.new.self (omega arith) c.loop-field.invariant.0 field c.in-Some.ensures.steps in
    let one = after_some old x field.now rest (sym c.in_ok-number.ensures) in
    let bits = c.union-seen.ensures ∙ ap (bit_or old) c.of.ensures in
    (next.0, c.loop-field.invariant.1 ∙ ap (set_after old) next.1 ∙ one ∙ ap (λ b. set_after b rest) (sym bits))

pub returns-clause-has : goal.returns-clause-has
returns-clause-has c =
    let old = c.loop-field.seen.bits in
    let last = none_left 44 c.loop-field.field-iterator c.next.new.self c.in-None.ensures.steps in
    plain_has c.args.word.now (Some c.loop-field.seen) (sym (c.loop-field.invariant.1 ∙ ap (set_after old) last))
