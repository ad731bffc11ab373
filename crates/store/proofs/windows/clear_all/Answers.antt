use Rattle.std.proofs.Common.{◌≡◌, length, replicate, ap, ◌∙◌, rules}
use Rattle.parts.specs.Parts.{blank}
use Rattle.store.proofs.windows.clear_all.Goals as goal

pub returns-then-sheet-eq-SHEET_PARTS-clause-filled : goal.returns-then-sheet-eq-SHEET_PARTS-clause-filled
returns-then-sheet-eq-SHEET_PARTS-clause-filled c long =
    let filled : c.fill.new.self ≡ replicate (length c.args.sheet.now) blank = search rules in
    filled ∙ ap (λ n. replicate n blank) long
