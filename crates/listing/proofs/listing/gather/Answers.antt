use Rattle.std.proofs.Common.{subst, sym}
use Rattle.grammar.specs.Faults.{GivesOne}
use Rattle.listing.proofs.Gathering.{one_more, all_read, fault_told, sheet_stays, unasked}
use Rattle.listing.proofs.listing.gather.Goals as goal

pub loop-declared-preserved : goal.loop-declared-preserved
loop-declared-preserved g c =
    let told = rw c.in-Ok-Some.field-0-is at c.in-Ok-Some.ensures in
    let kept = c.in_ok-keep-in-Ok-Some.ensures in
    let one = subst GivesOne (sym c.requires.0) g.met.N.Notation.one in
    record {
      sheet = sheet_stays c.in-Ok-Some.declared c.next.new.sheet c.loop-declared.sheet told.limits.1 told.sheet;
      so_far =
          one_more c.args.reader.now c.loop-declared.reader c.next.new.self c.loop-declared.elements.items c.keep.new.elements.items c.next.new.sheet c.in-Ok-Some.declared kept.0
          one c.loop-declared.invariant.so_far (unasked c.loop-declared.reader _ _ c.loop-declared.invariant.sheet told.answer) told.model told.place told.goes_on kept.1 kept.2;
    }

pub returns-in-Ok-None : goal.returns-in-Ok-None
returns-in-Ok-None g c =
    let told = rw c.in-Ok-None.field-0-is at c.in-Ok-None.ensures in
    all_read c.args.reader.now c.loop-declared.reader c.next.new.self c.loop-declared.elements.items c.loop-declared.invariant.so_far
    (unasked c.loop-declared.reader _ _ c.loop-declared.invariant.sheet told.answer) told.goes_on

pub returns-in-Err-Text : goal.returns-in-Err-Text
returns-in-Err-Text g c =
    let told = rw c.in-Err-Text.field-0-is at c.in-Err-Text.ensures in
    rw c.in-Err-Text.fault-is
    (fault_told c.args.reader.now c.loop-declared.reader c.next.new.self c.loop-declared.elements.items c.in-Err-Text.fault c.loop-declared.invariant.so_far
    (unasked c.loop-declared.reader _ _ c.loop-declared.invariant.sheet told.answer) told.goes_on)
