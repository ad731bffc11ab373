use Rattle.set.proofs.families.co_occurrence.FirstBrokenSummary.nonempty.Goals as goal

pub returns : goal.returns
returns g c t formed of = (c.nonempty.ensures t formed of.0, c.nonempty-2.ensures t formed of.1, of.2)
