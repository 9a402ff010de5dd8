-- The loop's invariant: the images of the positions below 2^q are there.
use Rattle.std.proofs.Common.{arith}
use Rattle.images.specs.ArrayLaws.{shifted, images_start, images_more}
use Rattle.images.proofs.put_images.Goals as goal

pub loop-q-init : goal.loop-q-init
loop-q-init c = images_start c.args.map.now.m c.args.map.now.table.now c.args.images.now (omega arith)

pub loop-q-preserved : goal.loop-q-preserved
loop-q-preserved c =
    let l = c.loop-q in
    images_more c.args.map.now.m c.args.map.now.table.now c.requires l.q c.loop-q-test.true _ _ (shifted l.q (omega arith)) c.column.ensures l.images _
    l.invariant c.add_column.ensures
