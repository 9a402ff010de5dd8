-- `some_frozen_one`: the indices before i, and what was found among them.
use Rattle.bit_rows.specs.FillLaws.{see_more}
use Rattle.bit_rows.proofs.some_frozen_one.Goals as goal

pub loop-i-preserved : goal.loop-i-preserved
loop-i-preserved c = see_more _ _ _ c.requires c.loop-i.some c.loop-i-test.true c.loop-i.invariant
