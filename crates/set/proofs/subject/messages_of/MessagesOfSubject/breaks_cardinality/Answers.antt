use Rattle.std.proofs.Common.{subst}
use Rattle.models.specs.Checked.{tree_of}
use Rattle.occurrences.specs.Figures.{FewestIs}
use Rattle.set.proofs.Counting.{too_many_breaks}
use Rattle.set.proofs.subject.messages_of.MessagesOfSubject.breaks_cardinality.Goals as goal

pub returns-else-is_below : goal.returns-else-is_below
returns-else-is_below c bounded =
    let t = tree_of c.args.self.now.model in
    let (few, most, every) = c.occurrences_of-occurring.ensures in
    too_many_breaks c.args.symbol t c.args.bounds _ _ bounded (subst (FewestIs c.args.symbol t) c.in-Some.is few) c.if-is_below.ensures _ most c.is_above.ensures.ends c.is_above.ensures.endless
