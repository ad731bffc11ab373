use Rattle.std.proofs.Common.{is_ok, ap}
use Rattle.models.proofs.Refused.{refused_exactly}
use Rattle.models.proofs.Written.{taken_exactly, model_messages}
use Rattle.models.proofs.model.check.check.Goals as goal

pub returns-in_err-check_table-clause-taken : goal.returns-in_err-check_table-clause-taken
returns-in_err-check_table-clause-taken c = taken_exactly

pub returns-in_err-check_table-clause-refused : goal.returns-in_err-check_table-clause-refused
returns-in_err-check_table-clause-refused c = refused_exactly

pub returns-clause-taken : goal.returns-clause-taken
returns-clause-taken c = taken_exactly

pub returns-clause-refused : goal.returns-clause-refused
returns-clause-refused c = refused_exactly

pub returns-clause-messages : goal.returns-clause-messages
returns-clause-messages c = model_messages c.args.parts.now (ap is_ok c.in_ok-check_table.ensures)
