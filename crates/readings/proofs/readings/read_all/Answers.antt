use Rattle.std.proofs.Common.{◌≡◌, ◌<◌, ◌≤◌, length, take, refl, subst, arith}
use Rattle.std.proofs.lemmas.List.{take_all}
use Rattle.readings.specs.Calls.{said, history}
use Rattle.readings.specs.Runs.{start}
use Rattle.readings.specs.Histories.{texts_begun}
use Rattle.readings.specs.Desks.{StandsAt}
use Rattle.readings.specs.declared.desk.Desk.TheVariants.{Reads}
use Rattle.readings.specs.declared.call.ReadCall.TheVariants.{Begin, Next}
use Rattle.readings.specs.declared.answer.ReadAnswer.TheVariants.{Begun}
use Rattle.readings.proofs.Fixing.{law_fixes}
use Rattle.readings.proofs.Running.{closed, run_on, begins_text, next_stands}
use Rattle.readings.proofs.readings.read_all.Goals as goal
use Rattle.readings.proofs.readings.read_all.Goals.{in-Begin, in-Next+in_ok-answer-in-Next}

pub returns-in_err-answer-in-Next-clause-fixed : goal.returns-in_err-answer-in-Next-clause-fixed
returns-in_err-answer-in-Next-clause-fixed g c = law_fixes (start g.N.Notation.which c.args.vocabulary) g.met.N.Notation.one

pub returns-in_err-push-clause-fixed : goal.returns-in_err-push-clause-fixed
returns-in_err-push-clause-fixed g c = law_fixes (start g.N.Notation.which c.args.vocabulary) g.met.N.Notation.one

pub returns-clause-fixed : goal.returns-clause-fixed
returns-clause-fixed g c = law_fixes (start g.N.Notation.which c.args.vocabulary) g.met.N.Notation.one

pub loop-place-preserved : goal.loop-place-preserved
loop-place-preserved g c =
    let s = start g.N.Notation.which c.args.vocabulary in
    let run = c.loop-place.invariant in
    let calls = c.args.calls.now in
    let place = c.loop-place.place in
    let answers = c.loop-place.answers.items in
    let within : place < length calls = omega (arith, c.loop-place-test.true) in
    let few : c.args.vocabulary.texts ≤ 65535 = omega arith in
    let begun = texts_begun (history (take place calls) answers) in
    elim c.match-calls-place.branch [
      | in-Begin w ↦
          let known = closed s begun c.loop-place.desk w.close.result few run.stands w.close.ensures in
          let first = g.met.N.Notation.some w.close.result.names w.in-Begin.text.now in
          let stands = begins_text g.row.N.Denot s begun w.close.result w.in-Begin.text.now known first w.open.result w.open.ensures in
          run_on s calls _ place answers c.push.new.self.items c.loop-place.desk (Reads w.open.result) c.match-calls-place.desk (Begin w.in-Begin.text) Begun c.match-calls-place.answer run within w.in-Begin.is c.in_ok-push.ensures.items w.answer-is w.desk-is refl stands tt
      | in-Next+in_ok-answer-in-Next w ↦
          let (due, stands, model) = next_stands s begun c.loop-place.desk w.next.new.desk (said w.in_ok-answer-in-Next.answer) run.stands w.in_ok-answer-in-Next.ensures in
          run_on s calls _ place answers c.push.new.self.items c.loop-place.desk w.next.new.desk c.match-calls-place.desk Next w.in_ok-answer-in-Next.answer c.match-calls-place.answer run within w.in-Next.is c.in_ok-push.ensures.items w.answer-is w.desk-is due stands model
    ]

pub returns-clause-names : goal.returns-clause-names
returns-clause-names g c =
    let s = start g.N.Notation.which c.args.vocabulary in
    let calls = c.args.calls.now in
    let answers = c.loop-place.answers.items in
    let few : c.args.vocabulary.texts ≤ 65535 = omega arith in
    let all : take c.loop-place.place calls ≡ calls = take_all c.loop-place.place calls (omega (arith, c.loop-place-test.false)) in
    let stands = subst (λ cs. StandsAt s (texts_begun (history cs answers)) c.loop-place.desk) all c.loop-place.invariant.stands in
    let (ds, given, names, texts) = closed s (texts_begun (history calls answers)) c.loop-place.desk c.close-2.result few stands c.close-2.ensures in
    (ds, given, names)
