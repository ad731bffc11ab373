use Rattle.set.proofs.families.co_occurrence.FirstBrokenSummary.interleave.Goals as goal

pub returns : goal.returns
returns g c l r formed left right = (
  c.interleave.ensures l r formed left.0 right.0,
  c.interleave-2.ensures l r formed left.1 right.1,
  c.sides.ensures l r formed.0 formed.1 left right,
)
