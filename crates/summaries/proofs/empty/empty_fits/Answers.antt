use Rattle.summaries.proofs.Empties.{empty_count}
use Rattle.summaries.proofs.empty.empty_fits.Goals as goal

pub returns : goal.returns
returns c = record { exact = c.work_up.ensures; counts = empty_count }
