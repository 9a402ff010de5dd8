-- The loop's invariant is `Filled`: what is filled comes first, then what the row held.
use Rattle.bit_rows.specs.FillLaws.{fill_frozen, bit_left, fill_information}
use Rattle.bit_rows.proofs.fill.Goals as goal
use Rattle.bit_rows.proofs.fill.Goals.{else-kind-eq0, then-kind-eq0}

pub bounds-bits-used : goal.bounds-bits-used
bounds-bits-used c = bit_left _ _ _ c.requires.0 _ _ _ c.loop-i.invariant c.loop-i-test.true c.if-kind-eq0.false

pub loop-i-preserved : goal.loop-i-preserved
loop-i-preserved c =
    let f = c.loop-i.invariant in
    let h = c.loop-i-test.true in
    elim c.if-kind-eq0.branch [
      | then-kind-eq0 w ↦ rw (w.row-is, w.used-is) (fill_frozen _ _ _ c.requires.0 _ _ _ f h w.if-kind-eq0.true)
      | else-kind-eq0 w ↦ rw (w.row-is, w.used-is) (fill_information _ _ _ c.requires.0 _ _ _ f h w.if-kind-eq0.false)
    ]
