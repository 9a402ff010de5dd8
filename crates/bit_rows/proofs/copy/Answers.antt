-- The loop's invariant: what is copied comes first, then what is unchanged.
use Rattle.std.proofs.Common.{add-one, arith}
use Rattle.numbers.specs.Front.{front-suc}
use Rattle.bit_rows.proofs.copy.Goals as goal

pub loop-i-preserved : goal.loop-i-preserved
loop-i-preserved g c =
    let l = c.loop-i in
    let x = c.index-from-i.result in
    let step = front-suc c.args.to.now c.args.from.now l.i x (omega arith) c.loop-i-test.true in
    rw (add-one, l.invariant, c.index-from-i.is) step
