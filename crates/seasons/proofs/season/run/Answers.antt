use Rattle.std.proofs.Common.{◌+◌, ◌<◌, ◌≤◌, length, set, refl, ◌∙◌, subst, arith}
use Rattle.set.specs.Leading.{Shows}
use Rattle.seasons.specs.Runs.{past, Lawful}
use Rattle.seasons.specs.declared.answer.Answer.TheVariants as answer
use Rattle.seasons.proofs.Running.{run_blank, run_in_use, run_recall, beyond_none, beyond_more, beyond_later, beyond_both}
use Rattle.seasons.proofs.season.run.Goals as goal

pub loop-place-init : goal.loop-place-init
loop-place-init g c = (
  omega arith,
  beyond_none 0 c.args.answers.now,
  refl,
  run_blank g.F.RuleFamily.rules c.args.sheet.now c.args.calls.now c.args.answers.now _ _ c.blank-set.ensures.law,
)

pub returns-then-place-end-2-clause-law : goal.returns-then-place-end-2-clause-law
returns-then-place-end-2-clause-law g c =
    let few : c.args.end ≤ length c.run_drawn_up-place.new.answers = omega (arith, c.requires, c.run_drawn_up-place.ensures.beyond, c.loop-place.auto.answers) in
    let drawn_up = c.run_drawn_up-place in
    let used = run_in_use g.F.RuleFamily.rules c.args.sheet.now c.args.calls.now drawn_up.new.answers c.run_issued-place.new.answers drawn_up.result c.args.end c.run_issued-place.result _ _ _ _
    drawn_up.ensures.within.1 c.if-place-end.false few drawn_up.ensures.stopped (drawn_up.ensures.runs c.args.sheet.now c.loop-place.invariant.3) c.issue-in_use.ensures.law c.run_issued-place.ensures.runs in
    subst (λ n. Lawful g.F.RuleFamily.rules (length c.args.sheet.now) n c.args.calls.now c.run_issued-place.new.answers) c.if-place-end-2.true used.lawful

pub returns-then-place-end-2-clause-shows : goal.returns-then-place-end-2-clause-shows
returns-then-place-end-2-clause-shows g c =
    let few : c.args.end ≤ length c.run_drawn_up-place.new.answers = omega (arith, c.requires, c.run_drawn_up-place.ensures.beyond, c.loop-place.auto.answers) in
    let drawn_up = c.run_drawn_up-place in
    let used = run_in_use g.F.RuleFamily.rules c.args.sheet.now c.args.calls.now drawn_up.new.answers c.run_issued-place.new.answers drawn_up.result c.args.end c.run_issued-place.result _ _ _ _
    drawn_up.ensures.within.1 c.if-place-end.false few drawn_up.ensures.stopped (drawn_up.ensures.runs c.args.sheet.now c.loop-place.invariant.3) c.issue-in_use.ensures.law c.run_issued-place.ensures.runs in
    rw c.recall.ensures.same.0
    (subst (λ n. Shows c.args.sheet.now (past n c.args.calls.now c.run_issued-place.new.answers) c.issue-in_use.result.sheet.now) c.if-place-end-2.true used.leads.shows)

pub loop-place-preserved : goal.loop-place-preserved
loop-place-preserved g c =
    let few : c.args.end ≤ length c.run_drawn_up-place.new.answers = omega (arith, c.requires, c.run_drawn_up-place.ensures.beyond, c.loop-place.auto.answers) in
    let drawn_up = c.run_drawn_up-place in
    let used = run_in_use g.F.RuleFamily.rules c.args.sheet.now c.args.calls.now drawn_up.new.answers c.run_issued-place.new.answers drawn_up.result c.args.end c.run_issued-place.result _ _ _ _
    drawn_up.ensures.within.1 c.if-place-end.false few drawn_up.ensures.stopped (drawn_up.ensures.runs c.args.sheet.now c.loop-place.invariant.3) c.issue-in_use.ensures.law c.run_issued-place.ensures.runs in
    let recalled = c.run_issued-place.result in
    let last : recalled < c.args.end = omega (arith, c.run_issued-place.ensures.within, c.if-place-end-2.false) in
    let (from, to) = c.run_drawn_up-place.ensures.within in
    let old = c.args.answers.now in
    let place = c.run_drawn_up-place.result in
    let answered = c.run_drawn_up-place.new.answers in
    let before = beyond_both place old c.loop-place.answers answered (beyond_later c.loop-place.place place old c.loop-place.answers from c.loop-place.invariant.1) c.run_drawn_up-place.ensures.beyond in
    let issued = beyond_later (place + 1) recalled old (set answered place answer.Granted) c.run_issued-place.ensures.within.0 (beyond_more place old answered answer.Granted before) in
    let beyond = beyond_both recalled old (set answered place answer.Granted) c.run_issued-place.new.answers issued c.run_issued-place.ensures.beyond in
    let room : recalled < length c.run_issued-place.new.answers = omega (arith, last, c.requires, beyond.0) in (
      omega (arith, last),
      beyond_more recalled old c.run_issued-place.new.answers answer.Granted beyond,
      c.recall-set.ensures.lender ∙ c.issue-in_use.ensures.lender ∙ c.run_drawn_up-place.ensures.lender ∙ c.loop-place.invariant.2,
      run_recall g.F.RuleFamily.rules c.args.sheet.now c.args.calls.now c.run_issued-place.new.answers recalled _ _ _ _ room (c.run_issued-place.ensures.stopped last) used c.recall-set.ensures.law,
    )
