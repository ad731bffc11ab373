use Rattle.std.proofs.Common.{◌+◌, map, drop, get_or, refl, ap}
use Rattle.std.proofs.lemmas.List.{drop_more}
use Rattle.seasons.specs.Calls.{told}
use Rattle.seasons.specs.declared.answer.Answer.TheVariants as answer
use Rattle.runner.proofs.Turning.{is_of_set, turned_table, turned_set, answer_there}
use Rattle.runner.proofs.writing.write_entries.Goals as goal
use Rattle.runner.proofs.writing.write_entries.Goals.{in-Some+in_ok-write_answer-in-Some, in-None+in_ok-write_set_answer-in-None}

pub loop-entry-preserved : goal.loop-entry-preserved
loop-entry-preserved g c =
    let es = c.args.entries.now in
    let n = c.loop-entry.entry-index in
    let e = c.entry-item.result in
    let left = map told (drop c.loop-entry.next c.args.answers.now) in
    elim c.match-answer_call.branch [
      | in-Some+in_ok-write_answer-in-Some w ↦
          rw (w.out-is, w.next-is)
          (turned_table es n e c.loop-entry-test.true c.entry-item.is left _ _ _ c.loop-entry.invariant w.in-Some.answer _ w.in-Some.ensures c.in_ok-write_words.ensures w.in_ok-write_answer-in-Some.ensures)
      | in-None+in_ok-write_set_answer-in-None w ↦
          let (a, asks) = is_of_set e.call w.in-None.ensures in
          let next = c.loop-entry.next in
          let answers = c.args.answers.now in
          let there = answer_there es n e c.loop-entry-test.true c.entry-item.is left (g.W.Write.contents c.args.out.now) (g.W.Write.contents c.loop-entry.out) (g.W.Write.contents c.write_words.new.out) c.loop-entry.invariant a asks answers next refl in
          rw (w.out-is, w.next-is)
          (turned_set es n e c.loop-entry-test.true c.entry-item.is left _ _ _ c.loop-entry.invariant a asks (told (get_or answers next answer.Granted)) (map told (drop (next + 1) answers)) (g.W.Write.contents c.write_words.new.out)
          (ap (map told) (drop_more answers next answer.Granted there)) c.in_ok-write_words.ensures w.in_ok-write_set_answer-in-None.ensures)
    ]
