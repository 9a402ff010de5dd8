-- The loop's invariant is `Picked`; a pass takes a part of eight kinds, and the last few, fewer than eight, are taken one by one.
use Rattle.std.proofs.Common.{◌≡◌, ◌+◌, ◌*◌, arith}
use Rattle.bit_rows.specs.PickLaws.{all_pickable, part-back}
use Rattle.bit_rows.proofs.pick.Goals as goal

pub overflow_add-taken : goal.overflow_add-taken
overflow_add-taken c =
    let whole = all_pickable c.args.kinds.now c.args.row.now c.args.bits.now c.requires in
    omega (arith, (part-back _ _ _ whole _ _ _ c.loop-k.invariant 8 (omega arith) _ _ c.pick_eight-taken.ensures).left)

pub loop-k-preserved : goal.loop-k-preserved
loop-k-preserved c =
    let whole = all_pickable c.args.kinds.now c.args.row.now c.args.bits.now c.requires in
    let next : 8 * (c.loop-k.k + 1) ≡ 8 * c.loop-k.k + 8 = omega arith in
    rw next (part-back _ _ _ whole _ _ _ c.loop-k.invariant 8 (omega arith) _ _ c.pick_eight-taken.ensures)
