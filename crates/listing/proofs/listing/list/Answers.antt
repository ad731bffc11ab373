use Rattle.listing.proofs.Gathering.{all_listed}
use Rattle.listing.proofs.Agreeing.{lists_one}
use Rattle.listing.proofs.listing.list.Goals as goal

pub returns-in-Ok-clause-listing : goal.returns-in-Ok-clause-listing
returns-in-Ok-clause-listing g c =
    all_listed g.N.Notation.which c.args.vocabulary c.args.text.now c.open-reader.result c.gather.new.reader _ c.open-reader.ensures c.in-Ok.ensures c.close.ensures.names c.close.ensures.texts

pub returns-in-Ok-clause-one : goal.returns-in-Ok-clause-one
returns-in-Ok-clause-one g c = lists_one g.N.Notation.which g.met.N.Notation.one

pub returns-clause-one : goal.returns-clause-one
returns-clause-one g c = lists_one g.N.Notation.which g.met.N.Notation.one
