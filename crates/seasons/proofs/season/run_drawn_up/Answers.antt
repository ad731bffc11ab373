use Rattle.std.proofs.Common.{◌≡◌, ◌<◌, length, refl, ◌∙◌, subst, arith}
use Rattle.std.proofs.lemmas.List.{get_or_read}
use Rattle.set.specs.declared.state.State.TheVariants.{DrawnUp}
use Rattle.seasons.specs.Runs.{Answered, Runs, Beyond}
use Rattle.seasons.specs.declared.call.Call.TheVariants as call
use Rattle.seasons.proofs.Running.{run_more, beyond_none, beyond_more}
use Rattle.seasons.proofs.season.run_drawn_up.Goals as goal

pub loop-place-init : goal.loop-place-init
loop-place-init g c = (beyond_none c.args.from c.args.answers.now, refl, λ first run. run)

pub returns-in-None-clause-beyond : goal.returns-in-None-clause-beyond
returns-in-None-clause-beyond g c = c.loop-place.invariant.0

pub returns-in-None-clause-lender : goal.returns-in-None-clause-lender
returns-in-None-clause-lender g c = c.in-None.ensures.lender ∙ c.loop-place.invariant.1

pub returns-in-None-clause-runs : goal.returns-in-None-clause-runs
returns-in-None-clause-runs g c first run =
    let (is, sheet, slots) = c.in-None.ensures.called in
    rw (sheet, slots) ((c.loop-place.invariant.2) first run)

pub loop-place-preserved : goal.loop-place-preserved
loop-place-preserved g c =
    let (beyond, lent, runs) = c.loop-place.invariant in
    let place = c.loop-place.place in
    let within : place < length c.loop-place.answers = omega (arith, c.loop-place-test.true, c.requires, beyond.0) in
    let a_call : place < length c.args.calls.now = omega (arith, c.loop-place-test.true, c.requires) in
    let read = get_or_read c.args.calls.now place c.index-calls-place.result a_call c.index-calls-place.is call.Issue in (
      beyond_more place c.args.answers.now c.loop-place.answers c.in-Some.answer beyond,
      c.in-Some.ensures.lender ∙ lent,
      (λ first run.
          run_more g.F.RuleFamily.rules first c.args.calls.now c.loop-place.answers place DrawnUp DrawnUp _ _ _ _ c.in-Some.answer within (runs first run)
          (subst (λ x. Answered g.F.RuleFamily.rules x c.in-Some.answer DrawnUp c.loop-place.set.sheet.now c.loop-place.set.slots.at DrawnUp c.drawn_up_call.new.set.sheet.now c.drawn_up_call.new.set.slots.at) read c.in-Some.ensures.called)),
    )

pub returns-clause-beyond : goal.returns-clause-beyond
returns-clause-beyond g c =
    let done : c.loop-place.place ≡ c.args.end = omega (arith, c.requires) in
    subst (λ n. Beyond n c.args.answers.now c.loop-place.answers) done c.loop-place.invariant.0

pub returns-clause-lender : goal.returns-clause-lender
returns-clause-lender g c = c.loop-place.invariant.1

pub returns-clause-runs : goal.returns-clause-runs
returns-clause-runs g c first run =
    let done : c.loop-place.place ≡ c.args.end = omega (arith, c.requires) in
    subst (λ n. Runs g.F.RuleFamily.rules first c.args.calls.now c.loop-place.answers n DrawnUp c.loop-place.set.sheet.now c.loop-place.set.slots.at) done
    ((c.loop-place.invariant.2) first run)
