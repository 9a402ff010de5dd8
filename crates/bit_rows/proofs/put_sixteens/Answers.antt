-- The loop's invariant is `Putting`: the words of the first k blocks are in the row.
use Rattle.words.specs.Word.{transform}
use Rattle.bit_rows.specs.BlockLaws.{keeps_transform}
use Rattle.bit_rows.proofs.SixteenLaws.{next_put, last_put}
use Rattle.bit_rows.proofs.put_sixteens.Goals as goal

pub loop-k-preserved : goal.loop-k-preserved
loop-k-preserved c = next_put (transform 4) _ _ _ c.loop-k.invariant c.loop-k-test.true (keeps_transform 4) _ c.put_sixteen.ensures

pub returns : goal.returns
returns c = last_put (transform 4) _ _ _ c.loop-k.invariant c.requires.1 c.loop-k-test.false
