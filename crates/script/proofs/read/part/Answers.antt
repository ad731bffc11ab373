use Rattle.std.proofs.Common.{[], sym, ap, ◌∙◌, arith}
use Rattle.script.specs.Reads.{of_fields}
use Rattle.script.proofs.Fields.{Seen, none_seen, next_seen, all_seen}
use Rattle.script.proofs.read.part.Goals as goal

pub returns-in_err-symbol : goal.returns-in_err-symbol
returns-in_err-symbol c =
    let cut = c.split-fields.ensures in
    let none : Seen 58 c.args.word.now [] c.split-fields.result = none_seen cut.pattern cut.has_more cut.text in
    let one = next_seen none c.next.new.self (omega arith) c.in_ok-kind.kind c.in_ok-kind.ensures.steps in
    c.from_residual-in_err-symbol.ensures ∙ sym (ap of_fields (all_seen one c.next-2.new.self c.in_err-symbol.ensures.steps))

pub returns-in_err-low : goal.returns-in_err-low
returns-in_err-low c =
    let cut = c.split-fields.ensures in
    let none : Seen 58 c.args.word.now [] c.split-fields.result = none_seen cut.pattern cut.has_more cut.text in
    let one = next_seen none c.next.new.self (omega arith) c.in_ok-kind.kind c.in_ok-kind.ensures.steps in
    let two = next_seen one c.next-2.new.self (omega arith) c.in_ok-symbol.symbol c.in_ok-symbol.ensures.steps in
    c.from_residual-in_err-low.ensures ∙ sym (ap of_fields (all_seen two c.next-3.new.self c.in_err-low.ensures.steps))

pub returns-in_err-high : goal.returns-in_err-high
returns-in_err-high c =
    let cut = c.split-fields.ensures in
    let none : Seen 58 c.args.word.now [] c.split-fields.result = none_seen cut.pattern cut.has_more cut.text in
    let one = next_seen none c.next.new.self (omega arith) c.in_ok-kind.kind c.in_ok-kind.ensures.steps in
    let two = next_seen one c.next-2.new.self (omega arith) c.in_ok-symbol.symbol c.in_ok-symbol.ensures.steps in
    let three = next_seen two c.next-3.new.self (omega arith) c.in_ok-low.low c.in_ok-low.ensures.steps in
    c.from_residual-in_err-high.ensures ∙ sym (ap of_fields (all_seen three c.next-4.new.self c.in_err-high.ensures.steps))

pub returns-in-None : goal.returns-in-None
returns-in-None c =
    let cut = c.split-fields.ensures in
    let none : Seen 58 c.args.word.now [] c.split-fields.result = none_seen cut.pattern cut.has_more cut.text in
    let one = next_seen none c.next.new.self (omega arith) c.in_ok-kind.kind c.in_ok-kind.ensures.steps in
    let two = next_seen one c.next-2.new.self (omega arith) c.in_ok-symbol.symbol c.in_ok-symbol.ensures.steps in
    let three = next_seen two c.next-3.new.self (omega arith) c.in_ok-low.low c.in_ok-low.ensures.steps in
    let four = next_seen three c.next-4.new.self (omega arith) c.in_ok-high.high c.in_ok-high.ensures.steps in
    c.part_of.ensures ∙ sym (ap of_fields (all_seen four c.next-5.new.self c.in-None.ensures.steps))

pub returns-in-Some : goal.returns-in-Some
returns-in-Some c =
    let cut = c.split-fields.ensures in
    let none : Seen 58 c.args.word.now [] c.split-fields.result = none_seen cut.pattern cut.has_more cut.text in
    let one = next_seen none c.next.new.self (omega arith) c.in_ok-kind.kind c.in_ok-kind.ensures.steps in
    let two = next_seen one c.next-2.new.self (omega arith) c.in_ok-symbol.symbol c.in_ok-symbol.ensures.steps in
    let three = next_seen two c.next-3.new.self (omega arith) c.in_ok-low.low c.in_ok-low.ensures.steps in
    let four = next_seen three c.next-4.new.self (omega arith) c.in_ok-high.high c.in_ok-high.ensures.steps in
    sym (ap of_fields (next_seen four c.next-5.new.self (omega arith) c.in-Some.field-0 c.in-Some.ensures.steps).is)
