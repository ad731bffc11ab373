use Rattle.std.proofs.Common.{length, refl, arith}
use Rattle.std.proofs.lemmas.Bool.{le-leb}
use Rattle.set.proofs.Above.{none_above, first_is_above}
use Rattle.set.proofs.message_set.questions.check_message.Goals as goal

pub returns-in-Some : goal.returns-in-Some
returns-in-Some c =
    let message = c.args.message.now in
    rw (le-leb (length message) 4096 (omega (arith, c.if-message-gt-MOST_SYMBOLS.false)), first_is_above message c.in-Some.place c.in-Some.ensures) refl

pub returns-in-None : goal.returns-in-None
returns-in-None c =
    let message = c.args.message.now in
    rw (le-leb (length message) 4096 (omega (arith, c.if-message-gt-MOST_SYMBOLS.false)), none_above 0 message c.in-None.ensures) refl
