-- The loop's invariant is `Layering`: what the layers that are left give is what all give.
use Rattle.std.proofs.Common.{arith}
use Rattle.bit_rows.proofs.LayerLaws.{layer_asked, the-step, the-count, next-layer, last-layer}
use Rattle.bit_rows.proofs.layers.Goals as goal

pub overflow_shl-t : goal.overflow_shl-t
overflow_shl-t c = (the-step _ _ _ _ _ c.loop-t.invariant c.loop-t-test.true (omega arith)).0

pub overflow_shl-m : goal.overflow_shl-m
overflow_shl-m c = (the-count _ _ _ _ _ c.loop-t.invariant c.loop-t-test.true (omega arith)).0

pub layer-requires : goal.layer-requires
layer-requires c =
    let w = c.loop-t.invariant in
    let t = c.loop-t-test.true in
    rw ((the-step _ _ _ _ _ w t (omega arith)).1) (layer_asked _ _ _ _ _ w t, (the-count _ _ _ _ _ w t (omega arith)).1)

pub loop-t-preserved : goal.loop-t-preserved
loop-t-preserved c =
    let w = c.loop-t.invariant in
    let t = c.loop-t-test.true in
    next-layer _ _ _ _ _ w t _ (rw (← (the-step _ _ _ _ _ w t (omega arith)).1) c.layer.ensures)

pub returns : goal.returns
returns c = last-layer _ _ _ _ _ c.loop-t.invariant c.loop-t-test.false
