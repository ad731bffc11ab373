use Rattle.std.proofs.Common.{length}
use Rattle.models.specs.Checked.{parts_of}
use Rattle.models.proofs.Written.{model_sheet}
use Rattle.store.specs.declared.slot.Slot.TheVariants.{Declared}
use Rattle.store.proofs.Writes.{model_sound, sound_kept}
use Rattle.set.proofs.message_set.keeping.keep.Goals as goal

pub returns-clause-sound : goal.returns-clause-sound
returns-clause-sound c =
    let ps = parts_of c.args.model.now in
    let (numbered, next, written) = c.in_ok-place.ensures in
    let checked = c.args.model.now.checked in
    let few = (model_sheet ps checked).2 in
    rw (written, c.put.ensures, c.parts-length.ensures.same)
    (sound_kept c.args.sheet.now ps c.args.slots.now.at c.args.number c.in_ok-place.place (Declared (length ps)) numbered next few c.args.slots.now.full c.requires (model_sound ps few checked))
