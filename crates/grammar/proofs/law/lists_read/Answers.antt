use Rattle.grammar.proofs.Lists.{read_exactly, viable_exactly}
use Rattle.grammar.proofs.law.lists_read.Goals as goal

pub returns-clause-read : goal.returns-clause-read
returns-clause-read c = read_exactly

pub returns-clause-viable : goal.returns-clause-viable
returns-clause-viable c = viable_exactly
