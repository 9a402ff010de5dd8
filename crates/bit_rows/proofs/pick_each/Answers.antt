-- The loop's invariant is `Picked`; a pass takes a part of one kind.
use Rattle.std.proofs.Common.{◌≡◌, arith, get_or}
use Rattle.bit_rows.specs.PickLaws.{pick_frozen, place_left, pick_information, pick_ends}
use Rattle.bit_rows.proofs.pick_each.Goals as goal
use Rattle.bit_rows.proofs.pick_each.Goals.{else-kind-ne0, then-kind-ne0}

pub bounds-bits-taken : goal.bounds-bits-taken
bounds-bits-taken c =
    let one : get_or c.args.kinds.now c.loop-i.i 0 ≡ 1 = omega (arith, c.requires.bits_kinds c.loop-i.i) in
    place_left _ _ _ c.requires _ _ _ c.loop-i.invariant c.loop-i-test.true one

pub loop-i-preserved : goal.loop-i-preserved
loop-i-preserved c =
    let p = c.loop-i.invariant in
    let h = c.loop-i-test.true in
    elim c.if-kind-ne0.branch [
      | then-kind-ne0 w ↦ rw (w.bits-is, w.taken-is)
          (pick_information _ _ _ c.requires _ _ _ p h (omega (arith, c.requires.bits_kinds c.loop-i.i)))
      | else-kind-ne0 w ↦ rw (w.bits-is, w.taken-is) (pick_frozen _ _ _ c.requires _ _ _ p h (omega arith))
    ]

pub returns : goal.returns
returns c = pick_ends _ _ _ c.requires _ _ _ c.loop-i.invariant c.loop-i-test.false
