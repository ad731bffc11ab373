use Rattle.seasons.proofs.calling.issued_call.Goals as goal

pub returns-in-Compare : goal.returns-in-Compare
returns-in-Compare g c = rw c.in-Compare.is c.compared.ensures
