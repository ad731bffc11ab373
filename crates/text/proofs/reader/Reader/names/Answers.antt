use Rattle.text.proofs.Reading.{names_told}
use Rattle.text.proofs.reader.Reader.names.Goals as goal

pub returns : goal.returns
returns g c = names_told _ _ _ _ _ _ _ _ c.self.invariant g.met.N.Notation.one _ c.self.view_is
