use Rattle.std.proofs.Common.{[], ◌∷◌, codes, refl, inl, inr, rules}
use Rattle.script.proofs.Asking.{named, set_wrong, symbol_wrong}
use Rattle.script.proofs.Words.{begins_more}
use Rattle.script.proofs.reader.Reader.next_question.Goals as goal

pub returns-in_err-set-in-Some-every : goal.returns-in_err-set-in-Some-every
returns-in_err-set-in-Some-every c =
    let begins = named (codes "every") c.in-Some-every.ensures (search rules) in
    set_wrong _ _ _ _ _ c.from_residual.result c.from_residual.ensures.1 begins (inl refl) c.in_err-set-in-Some-every.ensures

pub returns-in_ok-set-in-Some-every : goal.returns-in_ok-set-in-Some-every
returns-in_ok-set-in-Some-every c =
    let begins = named (codes "every") c.in-Some-every.ensures (search rules) in
    let one = c.in_ok-set-in-Some-every.ensures in
    (codes "every" ∷ one.0.now ∷ [], (one.0.now, refl, one.2), begins_more _ (codes "every" ∷ []) one.0.now _ _ begins one.1)

pub returns-in_err-symbol-in-Some-occurs : goal.returns-in_err-symbol-in-Some-occurs
returns-in_err-symbol-in-Some-occurs c =
    let begins = named (codes "occurs") c.in-Some-occurs.ensures (search rules) in
    symbol_wrong _ _ _ _ _ c.from_residual-in_err-symbol-in-Some-occurs.result c.from_residual-in_err-symbol-in-Some-occurs.ensures.1 begins (inl refl) c.in_err-symbol-in-Some-occurs.ensures

pub returns-in_ok-symbol-in-Some-occurs : goal.returns-in_ok-symbol-in-Some-occurs
returns-in_ok-symbol-in-Some-occurs c =
    let begins = named (codes "occurs") c.in-Some-occurs.ensures (search rules) in
    let one = c.in_ok-symbol-in-Some-occurs.ensures in
    (codes "occurs" ∷ one.0.now ∷ [], (one.0.now, refl, one.2), begins_more _ (codes "occurs" ∷ []) one.0.now _ _ begins one.1)

pub returns-in_err-first-in-Some-brings : goal.returns-in_err-first-in-Some-brings
returns-in_err-first-in-Some-brings c =
    let begins = named (codes "brings") c.in-Some-brings.ensures (search rules) in
    set_wrong _ _ _ _ _ c.from_residual-in_err-first-in-Some-brings.result c.from_residual-in_err-first-in-Some-brings.ensures.1 begins (inr (inl refl)) c.in_err-first-in-Some-brings.ensures

pub returns-in_err-second-in-Some-brings : goal.returns-in_err-second-in-Some-brings
returns-in_err-second-in-Some-brings c =
    let begins = named (codes "brings") c.in-Some-brings.ensures (search rules) in
    let one = c.in_ok-first-in-Some-brings.ensures in
    let more = begins_more _ (codes "brings" ∷ []) one.0.now _ _ begins one.1 in
    set_wrong _ _ _ _ _ c.from_residual-in_err-second-in-Some-brings.result c.from_residual-in_err-second-in-Some-brings.ensures.1 more (inr (inr (one.0.now, _, refl, one.2))) c.in_err-second-in-Some-brings.ensures

pub returns-in_ok-second-in-Some-brings : goal.returns-in_ok-second-in-Some-brings
returns-in_ok-second-in-Some-brings c =
    let begins = named (codes "brings") c.in-Some-brings.ensures (search rules) in
    let one = c.in_ok-first-in-Some-brings.ensures in
    let two = c.in_ok-second-in-Some-brings.ensures in
    let more = begins_more _ (codes "brings" ∷ []) one.0.now _ _ begins one.1 in
    (codes "brings" ∷ one.0.now ∷ two.0.now ∷ [], (one.0.now, two.0.now, refl, one.2, two.2), begins_more _ (codes "brings" ∷ one.0.now ∷ []) two.0.now _ _ more two.1)

pub returns-in_err-first-in-Some-after : goal.returns-in_err-first-in-Some-after
returns-in_err-first-in-Some-after c =
    let begins = named (codes "after") c.in-Some-after.ensures (search rules) in
    symbol_wrong _ _ _ _ _ c.from_residual-in_err-first-in-Some-after.result c.from_residual-in_err-first-in-Some-after.ensures.1 begins (inr (inl refl)) c.in_err-first-in-Some-after.ensures

pub returns-in_err-second-in-Some-after : goal.returns-in_err-second-in-Some-after
returns-in_err-second-in-Some-after c =
    let begins = named (codes "after") c.in-Some-after.ensures (search rules) in
    let one = c.in_ok-first-in-Some-after.ensures in
    let more = begins_more _ (codes "after" ∷ []) one.0.now _ _ begins one.1 in
    symbol_wrong _ _ _ _ _ c.from_residual-in_err-second-in-Some-after.result c.from_residual-in_err-second-in-Some-after.ensures.1 more (inr (inr (one.0.now, _, refl, one.2))) c.in_err-second-in-Some-after.ensures

pub returns-in_ok-second-in-Some-after : goal.returns-in_ok-second-in-Some-after
returns-in_ok-second-in-Some-after c =
    let begins = named (codes "after") c.in-Some-after.ensures (search rules) in
    let one = c.in_ok-first-in-Some-after.ensures in
    let two = c.in_ok-second-in-Some-after.ensures in
    let more = begins_more _ (codes "after" ∷ []) one.0.now _ _ begins one.1 in
    (codes "after" ∷ one.0.now ∷ two.0.now ∷ [], (one.0.now, two.0.now, refl, one.2, two.2), begins_more _ (codes "after" ∷ one.0.now ∷ []) two.0.now _ _ more two.1)
