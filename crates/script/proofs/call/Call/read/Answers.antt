use Rattle.std.proofs.Common.{◌≡◌, get_or, subst, Decides, arith}
use Rattle.script.specs.Words.{First}
use Rattle.std.proofs.lemmas.Str.Pattern.{starts_char}
use Rattle.std.proofs.lemmas.Result.{err_from_is_err_and}
use Rattle.std.proofs.lemmas.Bool.Decides.{not_from_Decides}
use Rattle.script.proofs.call.Call.read.Goals as goal

pub returns-in_err-named : goal.returns-in_err-named
returns-in_err-named c =
    let line = c.args.line.now in
    let name = c.in-Some.name.now in
    let marked : Decides c.starts_with.result (get_or line 0 0 ≡ 35) = starts_char 35 line c.starts_with.result c.starts_with.ensures.cases (omega arith) (omega arith) in
    let first = subst (λ bs. First bs name c.next_word.new.self) c.new-reader.ensures c.in-Some.ensures in
    let p = err_from_is_err_and c.from_residual.result c.from_residual.ensures.1 in
    rw (p.1, p.2) (not_from_Decides _ marked c.if-starts_with.false, (name, c.next_word.new.self, first, c.in_err-named.ensures))
