use Rattle.store.proofs.Writes.{free_sound}
use Rattle.set.proofs.Leading.{blank_leads}
use Rattle.set.proofs.message_set.DrawnUp.blank.Goals as goal

pub invariant_of-result : goal.invariant_of-result
invariant_of-result c = record { sound = free_sound _ c.free.result.at c.free.ensures }

pub returns-clause-law : goal.returns-clause-law
returns-clause-law c = blank_leads c.args.sheet.now _ c.free.result.at c.clear_all.ensures.filled c.clear_all.ensures.unaltered c.free.ensures
