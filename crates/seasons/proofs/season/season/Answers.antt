use Rattle.std.proofs.Common.{length, rules}
use Rattle.set.proofs.Standing.{stands_exactly}
use Rattle.seasons.proofs.Fixing.{answers_fixed}
use Rattle.seasons.proofs.season.season.Goals as goal

pub returns-clause-fixed : goal.returns-clause-fixed
returns-clause-fixed g c = answers_fixed g.F.RuleFamily.rules (length c.args.sheet.now) c.args.calls.now

pub returns-clause-only : goal.returns-clause-only
returns-clause-only g c = answers_fixed g.F.RuleFamily.rules (length c.args.sheet.now) c.args.calls.now _ _ (search rules)

pub returns-clause-stands : goal.returns-clause-stands
returns-clause-stands g c = stands_exactly
