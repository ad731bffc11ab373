use Rattle.std.proofs.Common.{◌≡◌, ◌<◌, length, subst, arith}
use Rattle.std.proofs.lemmas.List.{get_or_read}
use Rattle.set.specs.declared.state.State.TheVariants.{Issued}
use Rattle.seasons.specs.Runs.{Answered, Runs, Beyond}
use Rattle.seasons.specs.declared.call.Call.TheVariants as call
use Rattle.seasons.proofs.Running.{run_more, beyond_none, beyond_more}
use Rattle.seasons.proofs.season.run_issued.Goals as goal

pub loop-place-init : goal.loop-place-init
loop-place-init g c = (beyond_none c.args.from c.args.answers.now, λ first run. run)

pub returns-in-None-clause-beyond : goal.returns-in-None-clause-beyond
returns-in-None-clause-beyond g c = c.loop-place.invariant.0

pub returns-in-None-clause-runs : goal.returns-in-None-clause-runs
returns-in-None-clause-runs g c = c.loop-place.invariant.1

pub loop-place-preserved : goal.loop-place-preserved
loop-place-preserved g c =
    let (beyond, runs) = c.loop-place.invariant in
    let place = c.loop-place.place in
    let store = c.args.set.now in
    let within : place < length c.loop-place.answers = omega (arith, c.loop-place-test.true, c.requires, beyond.0) in
    let a_call : place < length c.args.calls.now = omega (arith, c.loop-place-test.true, c.requires) in
    let read = get_or_read c.args.calls.now place c.index-calls-place.result a_call c.index-calls-place.is call.Issue in (
      beyond_more place c.args.answers.now c.loop-place.answers c.in-Some.answer beyond,
      (λ first run.
          run_more g.F.RuleFamily.rules first c.args.calls.now c.loop-place.answers place Issued Issued _ _ _ _ c.in-Some.answer within (runs first run)
          (subst (λ x. Answered g.F.RuleFamily.rules x c.in-Some.answer Issued store.sheet.now store.slots.at Issued store.sheet.now store.slots.at) read c.in-Some.ensures)),
    )

pub returns-clause-beyond : goal.returns-clause-beyond
returns-clause-beyond g c =
    let done : c.loop-place.place ≡ c.args.end = omega (arith, c.requires) in
    subst (λ n. Beyond n c.args.answers.now c.loop-place.answers) done c.loop-place.invariant.0

pub returns-clause-runs : goal.returns-clause-runs
returns-clause-runs g c first run =
    let done : c.loop-place.place ≡ c.args.end = omega (arith, c.requires) in
    let store = c.args.set.now in
    subst (λ n. Runs g.F.RuleFamily.rules first c.args.calls.now c.loop-place.answers n Issued store.sheet.now store.slots.at) done ((c.loop-place.invariant.1) first run)
