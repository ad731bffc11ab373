use Rattle.std.proofs.Common.{◌+◌, subst, sym, ap, ◌∙◌, refl, arith, take}
use Rattle.text.specs.Between.{model_parts}
use Rattle.text.specs.Law.Told.{declares}
use Rattle.text.specs.Standing.{Standing}
use Rattle.text.proofs.Reading.{unfailed, stands_between, gave, ended, failed, due_declaration, due_none, due_fault, due_new_fault, seen_same, asked, model_told, model_is, few_before, seen_ended, seen_gave, at_some, at_none, at_fault, delivered_front, names_back, told_of, few_given, place_told, limits_told, one_more, sheet_given}
use Rattle.text.proofs.reader.Reader.next.Goals as goal

pub returns-in-Some-clause-answer : goal.returns-in-Some-clause-answer
returns-in-Some-clause-answer g c =
    let i = c.self.inside in
    let s = at_fault g.N.Notation.which i.text.now i.cursor i.elements i.known i.texts i.given i.fault c.in-Some.fault c.in-Some.is c.self.invariant in
    asked _ c.args.self.now _ _ c.if-sheet-ne-MOST_PARTS.false c.self.view_is (due_fault g.N.Notation.which i.text.now i.cursor i.elements i.known i.texts i.given _ s)

pub invariant_of-self : goal.invariant_of-self
invariant_of-self g c =
    let i = c.self.inside in
    let s = unfailed g.N.Notation.which i.text.now i.cursor i.elements i.known i.texts i.given i.fault c.self.invariant c.in-None.is in
    let (all, b) = at_none _ _ _ _ _ _ _ _ c.in_default.is (c.in-Ok.ensures.declared _ _ _ (stands_between _ _ _ _ _ _ _ s) c.new-made.ensures) in
    subst (λ x. Standing g.N.Notation.which i.text.now c.declaration-read.new.cursor c.declaration-read.new.elements i.known i.texts i.given x) (sym c.in-None.is)
    (ended g.N.Notation.which i.text.now i.cursor _ i.elements _ i.known i.texts i.given s b c.in-Ok.ensures.grow)

pub returns-in_default-clause-answer : goal.returns-in_default-clause-answer
returns-in_default-clause-answer g c =
    let i = c.self.inside in
    let s = unfailed g.N.Notation.which i.text.now i.cursor i.elements i.known i.texts i.given i.fault c.self.invariant c.in-None.is in
    let (all, b) = at_none _ _ _ _ _ _ _ _ c.in_default.is (c.in-Ok.ensures.declared _ _ _ (stands_between _ _ _ _ _ _ _ s) c.new-made.ensures) in
    asked _ c.args.self.now _ _ c.if-sheet-ne-MOST_PARTS.false c.self.view_is (due_none g.N.Notation.which i.text.now i.cursor i.elements i.known i.texts i.given s all)

pub returns-in_default-clause-goes_on : goal.returns-in_default-clause-goes_on
returns-in_default-clause-goes_on g c =
    let i = c.self.inside in
    let s = unfailed g.N.Notation.which i.text.now i.cursor i.elements i.known i.texts i.given i.fault c.self.invariant c.in-None.is in
    let (all, b) = at_none _ _ _ _ _ _ _ _ c.in_default.is (c.in-Ok.ensures.declared _ _ _ (stands_between _ _ _ _ _ _ _ s) c.new-made.ensures) in
    seen_ended g.N.Notation.which i.text.now i.cursor _ i.elements _ i.known i.texts i.given s b c.in-Ok.ensures.grow ∙ c.self.view_is

pub deliver-requires : goal.deliver-requires
deliver-requires g c =
    let i = c.self.inside in
    let s = unfailed g.N.Notation.which i.text.now i.cursor i.elements i.known i.texts i.given i.fault c.self.invariant c.in-None.is in
    let (d, r) = at_some _ _ _ _ _ _ _ _ _ c.in-Some-next.is (c.in-Ok.ensures.declared _ _ _ (stands_between _ _ _ _ _ _ _ s) c.new-made.ensures) in
    (c.if-sheet-ne-MOST_PARTS.false, (model_parts c.declaration-read.new.elements.names d, r.made, model_is g.N.Notation.which _ _ _ d _ _ _ _ r (few_before i.known _ c.len-known.ensures.kept)))

pub invariant_of-self-in_err-declared-in-Ok : goal.invariant_of-self-in_err-declared-in-Ok
invariant_of-self-in_err-declared-in-Ok g c =
    let i = c.self.inside in
    let s = unfailed g.N.Notation.which i.text.now i.cursor i.elements i.known i.texts i.given i.fault c.self.invariant c.in-None.is in
    let (d, r) = at_some _ _ _ _ _ _ _ _ _ c.in-Some-next.is (c.in-Ok.ensures.declared _ _ _ (stands_between _ _ _ _ _ _ _ s) c.new-made.ensures) in
    absurd (c.in_err-declared-in-Ok.ensures (model_parts c.declaration-read.new.elements.names d) r.made (model_is g.N.Notation.which _ _ _ d _ _ _ _ r (few_before i.known _ c.len-known.ensures.kept)))

pub returns-in_err-declared-in-Ok : goal.returns-in_err-declared-in-Ok
returns-in_err-declared-in-Ok g c =
    let i = c.self.inside in
    let s = unfailed g.N.Notation.which i.text.now i.cursor i.elements i.known i.texts i.given i.fault c.self.invariant c.in-None.is in
    let (d, r) = at_some _ _ _ _ _ _ _ _ _ c.in-Some-next.is (c.in-Ok.ensures.declared _ _ _ (stands_between _ _ _ _ _ _ _ s) c.new-made.ensures) in
    absurd (c.in_err-declared-in-Ok.ensures (model_parts c.declaration-read.new.elements.names d) r.made (model_is g.N.Notation.which _ _ _ d _ _ _ _ r (few_before i.known _ c.len-known.ensures.kept)))

pub overflow_add-self : goal.overflow_add-self
overflow_add-self g c =
    let i = c.self.inside in
    let s = unfailed g.N.Notation.which i.text.now i.cursor i.elements i.known i.texts i.given i.fault c.self.invariant c.in-None.is in
    let (d, r) = at_some _ _ _ _ _ _ _ _ _ c.in-Some-next.is (c.in-Ok.ensures.declared _ _ _ (stands_between _ _ _ _ _ _ _ s) c.new-made.ensures) in
    let fits = few_given _ _ s.count r.few in omega (arith, fits)

pub invariant_of-self-in-Ok : goal.invariant_of-self-in-Ok
invariant_of-self-in-Ok g c =
    let i = c.self.inside in
    let s = unfailed g.N.Notation.which i.text.now i.cursor i.elements i.known i.texts i.given i.fault c.self.invariant c.in-None.is in
    let (d, r) = at_some _ _ _ _ _ _ _ _ _ c.in-Some-next.is (c.in-Ok.ensures.declared _ _ _ (stands_between _ _ _ _ _ _ _ s) c.new-made.ensures) in
    subst (λ x. Standing g.N.Notation.which i.text.now c.declaration-read.new.cursor c.declaration-read.new.elements i.known i.texts (i.given + 1) x) (sym c.in-None.is)
    (gave g.N.Notation.which i.text.now i.cursor _ i.elements _ i.known i.texts i.given s d _ _ r c.in-Ok.ensures.grow)

pub returns-in_ok-declared-in-Ok-clause-answer : goal.returns-in_ok-declared-in-Ok-clause-answer
returns-in_ok-declared-in-Ok-clause-answer g c =
    let i = c.self.inside in
    let s = unfailed g.N.Notation.which i.text.now i.cursor i.elements i.known i.texts i.given i.fault c.self.invariant c.in-None.is in
    let (d, r) = at_some _ _ _ _ _ _ _ _ _ c.in-Some-next.is (c.in-Ok.ensures.declared _ _ _ (stands_between _ _ _ _ _ _ _ s) c.new-made.ensures) in
    let given = c.in_ok-declared-in-Ok.ensures (model_parts c.declaration-read.new.elements.names d) r.made (model_is g.N.Notation.which _ _ _ d _ _ _ _ r (few_before i.known _ c.len-known.ensures.kept)) in
    asked _ c.args.self.now _ _ c.if-sheet-ne-MOST_PARTS.false c.self.view_is
    (due_declaration g.N.Notation.which i.text.now i.cursor _ i.elements _ i.known i.texts i.given s d _ _ r _ _ _ given.2 given.1 (delivered_front c.in-Some-next.element (model_parts c.declaration-read.new.elements.names d) c.args.sheet.now c.deliver.new.sheet c.in_ok-declared-in-Ok.declared given))

pub returns-in_ok-declared-in-Ok-clause-sheet : goal.returns-in_ok-declared-in-Ok-clause-sheet
returns-in_ok-declared-in-Ok-clause-sheet g c =
    let i = c.self.inside in
    let s = unfailed g.N.Notation.which i.text.now i.cursor i.elements i.known i.texts i.given i.fault c.self.invariant c.in-None.is in
    let (d, r) = at_some _ _ _ _ _ _ _ _ _ c.in-Some-next.is (c.in-Ok.ensures.declared _ _ _ (stands_between _ _ _ _ _ _ _ s) c.new-made.ensures) in
    let given = c.in_ok-declared-in-Ok.ensures (model_parts c.declaration-read.new.elements.names d) r.made (model_is g.N.Notation.which _ _ _ d _ _ _ _ r (few_before i.known _ c.len-known.ensures.kept)) in
    sheet_given c.in-Some-next.element (model_parts c.declaration-read.new.elements.names d) c.args.sheet.now c.deliver.new.sheet c.in_ok-declared-in-Ok.declared given

pub returns-in_ok-declared-in-Ok-clause-goes_on : goal.returns-in_ok-declared-in-Ok-clause-goes_on
returns-in_ok-declared-in-Ok-clause-goes_on g c =
    let i = c.self.inside in
    let s = unfailed g.N.Notation.which i.text.now i.cursor i.elements i.known i.texts i.given i.fault c.self.invariant c.in-None.is in
    let (d, r) = at_some _ _ _ _ _ _ _ _ _ c.in-Some-next.is (c.in-Ok.ensures.declared _ _ _ (stands_between _ _ _ _ _ _ _ s) c.new-made.ensures) in
    let given = c.in_ok-declared-in-Ok.ensures (model_parts c.declaration-read.new.elements.names d) r.made (model_is g.N.Notation.which _ _ _ d _ _ _ _ r (few_before i.known _ c.len-known.ensures.kept)) in
    seen_gave g.N.Notation.which i.text.now i.cursor _ i.elements _ i.known i.texts i.given s d _ _ r c.in-Ok.ensures.grow
    ∙ one_more _ _ c.self.view_is

pub returns-in_ok-declared-in-Ok-clause-place : goal.returns-in_ok-declared-in-Ok-clause-place
returns-in_ok-declared-in-Ok-clause-place g c =
    let i = c.self.inside in
    let s = unfailed g.N.Notation.which i.text.now i.cursor i.elements i.known i.texts i.given i.fault c.self.invariant c.in-None.is in
    let (d, r) = at_some _ _ _ _ _ _ _ _ _ c.in-Some-next.is (c.in-Ok.ensures.declared _ _ _ (stands_between _ _ _ _ _ _ _ s) c.new-made.ensures) in
    let given = c.in_ok-declared-in-Ok.ensures (model_parts c.declaration-read.new.elements.names d) r.made (model_is g.N.Notation.which _ _ _ d _ _ _ _ r (few_before i.known _ c.len-known.ensures.kept)) in
    place_told g.N.Notation.which i.text.now i.cursor _ i.elements _ i.known i.texts i.given s d _ _ r g.met.N.Notation.one c.in_ok-declared-in-Ok.declared given.2 given.3 _ c.self.view_is

pub returns-in_ok-declared-in-Ok-clause-limits : goal.returns-in_ok-declared-in-Ok-clause-limits
returns-in_ok-declared-in-Ok-clause-limits g c =
    let i = c.self.inside in
    let s = unfailed g.N.Notation.which i.text.now i.cursor i.elements i.known i.texts i.given i.fault c.self.invariant c.in-None.is in
    let (d, r) = at_some _ _ _ _ _ _ _ _ _ c.in-Some-next.is (c.in-Ok.ensures.declared _ _ _ (stands_between _ _ _ _ _ _ _ s) c.new-made.ensures) in
    let given = c.in_ok-declared-in-Ok.ensures (model_parts c.declaration-read.new.elements.names d) r.made (model_is g.N.Notation.which _ _ _ d _ _ _ _ r (few_before i.known _ c.len-known.ensures.kept)) in
    limits_told _ _ _ _ d _ _ _ _ r i.given s.count c.in_ok-declared-in-Ok.declared given.0 c.args.self.now (ap (λ x. x.given) c.self.view_is)

pub returns-in_ok-declared-in-Ok-clause-model : goal.returns-in_ok-declared-in-Ok-clause-model
returns-in_ok-declared-in-Ok-clause-model g c =
    let i = c.self.inside in
    let s = unfailed g.N.Notation.which i.text.now i.cursor i.elements i.known i.texts i.given i.fault c.self.invariant c.in-None.is in
    let (d, r) = at_some _ _ _ _ _ _ _ _ _ c.in-Some-next.is (c.in-Ok.ensures.declared _ _ _ (stands_between _ _ _ _ _ _ _ s) c.new-made.ensures) in
    let given = c.in_ok-declared-in-Ok.ensures (model_parts c.declaration-read.new.elements.names d) r.made (model_is g.N.Notation.which _ _ _ d _ _ _ _ r (few_before i.known _ c.len-known.ensures.kept)) in
    told_of _ c.args.self.now (declares (take c.in_ok-declared-in-Ok.declared.length c.deliver.new.sheet) c.in_ok-declared-in-Ok.declared.symbol c.in_ok-declared-in-Ok.declared.name.now) c.self.view_is
    (model_told g.N.Notation.which i.text.now i.cursor _ i.elements _ i.known i.texts i.given s d _ _ r g.met.N.Notation.one c.len-known.ensures.kept.few c.in_ok-declared-in-Ok.declared.name.now c.in_ok-declared-in-Ok.declared.symbol _ (delivered_front c.in-Some-next.element (model_parts c.declaration-read.new.elements.names d) c.args.sheet.now c.deliver.new.sheet c.in_ok-declared-in-Ok.declared given))

pub invariant_of-self-in-Err : goal.invariant_of-self-in-Err
invariant_of-self-in-Err g c =
    let i = c.self.inside in
    let s = unfailed g.N.Notation.which i.text.now i.cursor i.elements i.known i.texts i.given i.fault c.self.invariant c.in-None.is in
    let fails = c.in-Err.ensures.declared _ _ _ (stands_between _ _ _ _ _ _ _ s) c.new-made.ensures in
    let back = names_back i.elements c.declaration-read.new.elements _ _ c.in-Err.ensures.grow c.len-known.ensures.size c.truncate.ensures.first in
    let f = failed g.N.Notation.which i.text.now i.cursor c.declaration-read.new.cursor i.elements (record { names = c.truncate.new.self; declared = c.declaration-read.new.elements.declared; begun = c.declaration-read.new.elements.begun }) i.known i.texts i.given s
    (record { cause = c.in-Err.misfit.cause; place = c.in-Err.misfit.place; texts = i.texts; declarations = i.given }) back fails refl refl in
    f

pub returns-in-Err-clause-answer : goal.returns-in-Err-clause-answer
returns-in-Err-clause-answer g c =
    let i = c.self.inside in
    let s = unfailed g.N.Notation.which i.text.now i.cursor i.elements i.known i.texts i.given i.fault c.self.invariant c.in-None.is in
    let fails = c.in-Err.ensures.declared _ _ _ (stands_between _ _ _ _ _ _ _ s) c.new-made.ensures in
    asked _ c.args.self.now _ _ c.if-sheet-ne-MOST_PARTS.false c.self.view_is
    (due_new_fault g.N.Notation.which i.text.now i.cursor i.elements i.known i.texts i.given s (record { cause = c.in-Err.misfit.cause; place = c.in-Err.misfit.place; texts = i.texts; declarations = i.given }) fails refl refl)

pub returns-in-Err-clause-goes_on : goal.returns-in-Err-clause-goes_on
returns-in-Err-clause-goes_on g c =
    let i = c.self.inside in
    let back = names_back i.elements c.declaration-read.new.elements _ _ c.in-Err.ensures.grow c.len-known.ensures.size c.truncate.ensures.first in
    seen_same g.N.Notation.which i.text.now i.elements (record { names = c.truncate.new.self; declared = c.declaration-read.new.elements.declared; begun = c.declaration-read.new.elements.begun }) i.known i.texts i.given (ap (take i.known) back)
    ∙ c.self.view_is
