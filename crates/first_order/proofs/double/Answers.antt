-- After j passes the first j bits are repeated after the first h.
use Rattle.first_order.specs.WordLaws.{stored-again}
use Rattle.first_order.proofs.double.Goals as goal

pub loop-j-preserved : goal.loop-j-preserved
loop-j-preserved c =
    let l = c.loop-j in
    stored-again c.args.word.now c.args.h c.args.bit c.requires.0 l.word l.j c.loop-j-test.true l.invariant
