use Rattle.std.proofs.Common.{arith, Some}
use Rattle.std.specs.Prelude.{codes}
use Rattle.std.proofs.lemmas.Bool.Decides.{Decides-eqb}
use Rattle.std.proofs.lemmas.Slice.Eq.{strip_prefix_is}
use Rattle.text.proofs.Comments.{comment_read, comment_broken}
use Rattle.text.proofs.cursor.Cursor.comment.Goals as goal

pub returns-in-Ok : goal.returns-in-Ok
returns-in-Ok c =
    comment_read c.args.self.now c.advance.new.self c.rest.result.now c.in-Some.inside.now c.in-Ok.bytes c.rest.ensures
    (strip_prefix_is Decides-eqb c.rest.result.now (codes "<!-") (Some c.in-Some.inside) c.in-Some.ensures.cases)
    c.in-45.len_at_least (omega arith) c.in-Ok.ensures c.advance.ensures

pub returns-in-Err : goal.returns-in-Err
returns-in-Err c =
    comment_broken c.args.self.now c.rest.result.now c.in-Some.inside.now c.in-Err.bytes c.rest.ensures
    (strip_prefix_is Decides-eqb c.rest.result.now (codes "<!-") (Some c.in-Some.inside) c.in-Some.ensures.cases)
    c.in-45.len_at_least (omega arith) c.in-Err.ensures
