use Rattle.std.proofs.Common.{◌≡◌, length, map, arith}
use Rattle.seasons.specs.Calls.{asked}
use Rattle.runner.specs.Turns.{asked_in}
use Rattle.runner.proofs.Turning.{season_due}
use Rattle.runner.proofs.answering.answer_entries.Goals as goal

pub write_entries-requires : goal.write_entries-requires
write_entries-requires g c =
    let calls = c.as_slice.result.now in
    let sheet = c.as_mut_slice.result.now in
    let asks : map asked calls ≡ asked_in c.args.entries.now = rw c.as_slice.ensures.value c.in_ok-calls.ensures in
    let long : length sheet ≡ 8192 = omega (arith, c.as_mut_slice.ensures.len, c.in_ok-sheet.ensures.len) in
    rw c.as_slice-2.ensures.value (season_due c.args.entries.now calls c.in_ok-answers.answers.items (length sheet) long asks c.in_ok-answers.ensures.count c.in_ok-answers.ensures.law)
