-- The loop's invariant: the sums come first, then what is unchanged.
use Rattle.std.proofs.Common.{arith, ◌≡◌}
use Rattle.bit_rows.proofs.FoldLaws.{pass, all-passes}
use Rattle.bit_rows.proofs.fold.Goals as goal

pub loop-j-preserved : goal.loop-j-preserved
loop-j-preserved c = pass c.args.word.now c.args.h c.requires.0 c.loop-j.word c.loop-j.j c.loop-j-test.true c.loop-j.invariant

pub returns : goal.returns
returns c =
    let all : c.loop-j.j ≡ c.args.h = omega arith in
    rw (c.loop-j.invariant, all) (all-passes c.args.word.now c.args.h c.requires.0)
