-- The loop's invariant is `Blockwise`: the first k blocks are transformed.
use Rattle.std.proofs.Common.{arith}
use Rattle.words.specs.Word.{transform}
use Rattle.bit_rows.specs.BlockLaws.{next_block, last_block, keeps_transform}
use Rattle.bit_rows.proofs.eights.Goals as goal

pub loop-k-preserved : goal.loop-k-preserved
loop-k-preserved c =
    next_block (transform 3) 8 _ _ _ c.loop-k.invariant c.loop-k-test.true (keeps_transform 3) (omega arith) _ c.eight.ensures

pub returns : goal.returns
returns c = last_block _ _ _ _ _ c.loop-k.invariant (omega arith) c.loop-k-test.false c.loop-k.auto.k-end
