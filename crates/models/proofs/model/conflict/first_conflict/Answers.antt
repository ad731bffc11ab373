use Rattle.std.proofs.Common.{get_or, ◌∙◌}
use Rattle.models.specs.Written.{part}
use Rattle.models.proofs.Conflicts.{first_exactly, none_exactly}
use Rattle.models.proofs.Walks.{named_form, walked_none, walked_found, walked_more, walked_all}
use Rattle.models.proofs.model.conflict.first_conflict.Goals as goal

pub loop-place-init : goal.loop-place-init
loop-place-init c = walked_none _ c.parts-part-items.ensures.checked

pub returns-then-clashes : goal.returns-then-clashes
returns-then-clashes c =
    let here = get_or c.parts-part-items.result.now c.loop-place.place (part 0 0 0 0) in
    let form = c.ok-form.ensures.value ∙ named_form here _ c.try_from.ensures in
    record {
      first =
          rw (← c.parts-part-items.ensures.same)
          (walked_found _ c.parts-part-items.ensures.checked _ _ _ _ _ c.loop-place.invariant c.loop-place-test.true (rw form at c.clashes.ensures) c.if-clashes.true);
      place = first_exactly;
      none = none_exactly;
    }

pub loop-place-preserved : goal.loop-place-preserved
loop-place-preserved c =
    let here = get_or c.parts-part-items.result.now c.loop-place.place (part 0 0 0 0) in
    let form = c.ok-form.ensures.value ∙ named_form here _ c.try_from.ensures in
    rw (c.union-seen.ensures, c.own_symbol.ensures, c.is_symbol_part-after_symbol.ensures, form)
    (walked_more _ c.parts-part-items.ensures.checked _ _ _ _ _ c.loop-place.invariant c.loop-place-test.true (rw form at c.clashes.ensures) c.if-clashes.false)

pub returns : goal.returns
returns c = record {
  first =
      rw (← c.parts-part-items.ensures.same)
      (walked_all _ c.parts-part-items.ensures.checked _ _ _ c.loop-place-test.false c.loop-place.invariant);
  place = first_exactly;
  none = none_exactly;
}
