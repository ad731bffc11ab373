use Rattle.std.proofs.Common.{[], refl, arith}
use Rattle.store.specs.declared.slot.Slot.TheVariants.{Free}
use Rattle.store.proofs.Writes.{sound_kept}
use Rattle.set.proofs.message_set.keeping.clear.Goals as goal

pub returns-clause-sound : goal.returns-clause-sound
returns-clause-sound c =
    let (numbered, next, written) = c.in_ok-place.ensures in
    rw (written, c.put.ensures)
    (sound_kept c.args.sheet.now [] c.args.slots.now.at c.args.number c.in_ok-place.place Free numbered next (omega arith) c.args.slots.now.full c.requires refl)
