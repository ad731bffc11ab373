use Rattle.report.proofs.Counted.{all_included_exactly}
use Rattle.report.proofs.tally.Tally.is_all_included.Goals as goal

pub returns-then-self-eq0-2-clause-exact : goal.returns-then-self-eq0-2-clause-exact
returns-then-self-eq0-2-clause-exact c = all_included_exactly

pub returns-else-self-eq0-2-clause-exact : goal.returns-else-self-eq0-2-clause-exact
returns-else-self-eq0-2-clause-exact c = all_included_exactly
