use Rattle.std.proofs.Common.{◌≡◌, ◌+◌, length, is_ok, vec_items, sym, ap, subst, inr, arith}
use Rattle.script.proofs.Words.{first_of, begins_more, counted, one_more}
use Rattle.std.proofs.ResultArms.{chosen}
use Rattle.script.proofs.reader.Reader.rest.Goals as goal

pub returns-in_default : goal.returns-in_default
returns-in_default g c =
    let old = c.loop-word.invariant in
    let word = c.in-Some.word in
    let first = first_of _ word.now _ c.in-Some.ensures.steps in
    let count : c.len.result + 1 ≡ length old.seen + 1 = omega (arith, c.len.ensures, c.loop-word.row.ok.0, counted old) in
    inr (
      word,
      old.seen,
      vec_items c.loop-word.row,
      _,
      subst (λ n. c.wrong.result ≡ g.T.Written.unread n word) count c.wrong.ensures,
      begins_more _ old.seen _ _ _ old.begins first,
      old.written,
      sym c.in_default.ensures,
    )

pub loop-word-preserved : goal.loop-word-preserved
loop-word-preserved g c =
    let pushed = chosen _ _ _ _ c.push.ensures.items (ap is_ok c.in_ok-push.was) in
    let first = first_of _ c.in-Some.word.now _ c.in-Some.ensures.steps in
    one_more c.loop-word.invariant _ _ _ (vec_items c.push.new.self) pushed first (sym c.in-Some-read.ensures)
