use Rattle.grammar.proofs.Tried.{tried}
use Rattle.grammar.proofs.Examples.{shown}
use Rattle.grammar.proofs.Limits.{limits}
use Rattle.grammar.proofs.law.texts_worked.Goals as goal

pub returns-clause-tried : goal.returns-clause-tried
returns-clause-tried c = tried

pub returns-clause-shown : goal.returns-clause-shown
returns-clause-shown c = shown

pub returns-clause-limits : goal.returns-clause-limits
returns-clause-limits c = limits
