use Rattle.std.proofs.Common.{length}
use Rattle.set.proofs.Standing.{stands_exactly}
use Rattle.seasons.proofs.Fixing.{answers_fixed}
use Rattle.seasons.proofs.season.whole_season.Goals as goal

pub returns-in_err-answers-clause-fixed : goal.returns-in_err-answers-clause-fixed
returns-in_err-answers-clause-fixed g c = answers_fixed g.F.RuleFamily.rules (length c.args.sheet.now) c.args.calls.now

pub returns-in_err-answers-clause-stands : goal.returns-in_err-answers-clause-stands
returns-in_err-answers-clause-stands g c = stands_exactly
