use Rattle.std.proofs.Common.{subst, sym}
use Rattle.grammar.specs.Notations.Notation.{dtd}
use Rattle.grammar.specs.Machine.{name_before, spot_read}
use Rattle.text.specs.Progress.{Fails}
use Rattle.text.proofs.Children.{child_missing, child_read, child_fails}
use Rattle.text.proofs.dtd.steps.child.Goals as goal

pub returns-in_default-clause-read : goal.returns-in_default-clause-read
returns-in_default-clause-read c ks bytes a h is r wants =
    subst (Fails dtd ks bytes (spot_read (name_before a))) (sym c.misplaced.ensures)
    (child_missing ks bytes a h _ c.name.new.self _ is r wants c.in_default.ensures.0 c.in_default.ensures.1)

pub returns-in-Ok-clause-read : goal.returns-in-Ok-clause-read
returns-in-Ok-clause-read c ks bytes a h is r wants =
    let (moved, name, whole) = c.in-Some.ensures in
    (_, child_read ks bytes a h _ _ _ _ _ c.in-Ok.symbol is r moved name whole (c.in-Ok.ensures.taken ks _ r.elements), c.in-Ok.ensures.symbol)

pub returns-in-Err-clause-read : goal.returns-in-Err-clause-read
returns-in-Err-clause-read c ks bytes a h is r wants =
    let (moved, name, whole) = c.in-Some.ensures in
    subst (Fails dtd ks bytes (spot_read (name_before a))) (sym c.at.ensures)
    (child_fails ks bytes a h _ _ _ _ _ is r moved name whole (c.in-Err.ensures.taken ks _ r.elements))
