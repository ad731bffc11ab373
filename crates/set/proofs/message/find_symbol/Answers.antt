use Rattle.std.proofs.Common.{take, arith}
use Rattle.std.proofs.lemmas.List.{take_more, length-take-le}
use Rattle.set.proofs.Sofar.{count_here, count_more, last_here, last_more}
use Rattle.set.proofs.message.find_symbol.Goals.{then-found-symbol, else-found-symbol}
use Rattle.set.proofs.message.find_symbol.Goals as goal

pub loop-place-preserved : goal.loop-place-preserved
loop-place-preserved c =
    let m = c.args.message.now in
    let i = c.loop-place.place in
    let (count, few, last) = c.loop-place.invariant in
    let long = length-take-le i m (omega arith) in
    rw (take_more m i 0 c.loop-place-test.true)
    (elim c.if-found-symbol.branch [
      | then-found-symbol w ↦
          let one = count_here (take i m) _ c.args.symbol w.if-found-symbol.true in
          (omega (arith, w.count-is), omega (arith, w.count-is), rw w.last-is (rw long at (last_here (take i m) _ c.args.symbol w.if-found-symbol.true)))
      | else-found-symbol w ↦
          let one = count_more (take i m) _ c.args.symbol w.if-found-symbol.false in
          (omega (arith, w.count-is), omega (arith, w.count-is), rw w.last-is (last_more (take i m) _ c.args.symbol _ last w.if-found-symbol.false))
    ])
