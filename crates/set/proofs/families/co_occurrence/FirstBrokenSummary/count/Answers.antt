use Rattle.set.proofs.families.co_occurrence.FirstBrokenSummary.count.Goals as goal

pub returns : goal.returns
returns g c t formed of = (c.count.ensures t formed of.0, c.count-2.ensures t formed of.1, of.2)
