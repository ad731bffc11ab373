use Rattle.text.proofs.Reading.{begins}
use Rattle.text.proofs.reader.Reader.open.Goals as goal

pub invariant_of-result : goal.invariant_of-result
invariant_of-result g c = begins _ _ _ _ _ _ _ c.new-2.ensures.same c.len-known.ensures.size c.new.ensures.text c.new.ensures.at (c.new-2.ensures.first _) (g.met.N.Notation.some _ _)
