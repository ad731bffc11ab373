use Rattle.std.proofs.Common.{rules, length, take, sym, subst, arith}
use Rattle.std.proofs.lemmas.List.{length_push, take_all}
use Rattle.std.proofs.lemmas.List.FromFn.{length-enumerate_from}
use Rattle.std.proofs.lemmas.Iterator.Consumers.{YieldsList-turn, YieldsList-end, YieldsList-from_enumerate}
use Rattle.std.proofs.lemmas.Iterator.Splits.{YieldsList-from_lines}
use Rattle.std.proofs.lemmas.Result.{err_from_is_err_and}
use Rattle.std.specs.Str.Lines.{lines}
use Rattle.runner.specs.Entries.{Entered}
use Rattle.runner.proofs.Sofar.{numbered, entered_none, entered_more, script_ended}
use Rattle.runner.proofs.entry.read_entries.Goals as goal

pub loop-place-init : goal.loop-place-init
loop-place-init c = record { next = search rules; finite = search rules; entered = entered_none c.args.entries.now.items }

pub loop-place-preserved : goal.loop-place-preserved
loop-place-preserved c =
    let lines_all = lines c.args.text.now in
    let seen = c.loop-place.yielded in
    let all = YieldsList-from_enumerate (YieldsList-from_lines c.args.text.now cc) cc in
    let turn = YieldsList-turn all seen _ c.loop-place.yielded_by _ _ (c.in-Some.place, c.in-Some.line) c.in-Some.is c.next.ensures.steps in
    let (within, at, is) = numbered _ _ _ _ turn in
    let more = entered_more lines_all (length seen) c.in-Some.line.now _ _ _ within is c.loop-place.invariant.entered c.in_ok-read_line.ensures in
    let one_more = sym (length_push seen (c.in-Some.place, c.in-Some.line)) in
    record {
      next = search rules;
      finite = search rules;
      entered = subst (λ n. Entered (take n lines_all) c.args.entries.now.items c.read_line.new.entries.items) one_more more;
    }

pub returns-in_err-read_line : goal.returns-in_err-read_line
returns-in_err-read_line c =
    let seen = c.loop-place.yielded in
    let all = YieldsList-from_enumerate (YieldsList-from_lines c.args.text.now cc) cc in
    let turn = YieldsList-turn all seen _ c.loop-place.yielded_by _ _ (c.in-Some.place, c.in-Some.line) c.in-Some.is c.next.ensures.steps in
    let (within, at, is) = numbered _ _ _ _ turn in
    let p = err_from_is_err_and c.from_residual.result c.from_residual.ensures.1 in
    let ended = script_ended (lines c.args.text.now) (length seen) c.in-Some.place c.in-Some.line.now _ _ _ _ within at is c.loop-place.invariant.entered c.in_err-read_line.ensures in
    rw (p.1, p.2) ended

pub returns : goal.returns
returns c =
    let all = YieldsList-from_enumerate (YieldsList-from_lines c.args.text.now cc) cc in
    let end = YieldsList-end all c.loop-place.yielded _ c.loop-place.yielded_by _ _ c.in-None.is c.next.ensures.steps in
    let whole = take_all (length c.loop-place.yielded) (lines c.args.text.now) (omega (arith, end.1, length-enumerate_from 0 (lines c.args.text.now))) in
    subst (λ ls. Entered ls c.args.entries.now.items c.loop-place.entries.items) whole c.loop-place.invariant.entered
