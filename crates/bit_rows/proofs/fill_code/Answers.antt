-- The loop's invariant is `ByEights`: the indices of the first k eights are filled.
use Rattle.std.proofs.Common.{◌≡◌, ◌+◌, ◌*◌, arith}
use Rattle.bit_rows.specs.EightKindsLaws.{eight_asked, eight_back, eights_end_row}
use Rattle.bit_rows.proofs.fill_code.Goals as goal

pub fill_eight-used-requires : goal.fill_eight-used-requires
fill_eight-used-requires c =
    let f = c.requires in
    eight_asked _ _ _ _ _ _ c.loop-k.invariant f.eight (omega (arith, f.long_row)) _ c.saturating_sub-d.ensures

pub overflow_add-used : goal.overflow_add-used
overflow_add-used c =
    let f = c.requires in
    let done =
    eight_back _ _ _ _ _ _ c.loop-k.invariant f.eight (omega (arith, f.long_row)) _ c.saturating_sub-d.ensures _ _ c.fill_eight-used.ensures in
    omega (arith, done.room)

pub loop-k-preserved : goal.loop-k-preserved
loop-k-preserved c =
    let f = c.requires in
    let next : 8 * (c.loop-k.k + 1) ≡ 8 * c.loop-k.k + 8 = omega arith in
    rw next (eight_back _ _ _ _ _ _ c.loop-k.invariant f.eight (omega (arith, f.long_row)) _ c.saturating_sub-d.ensures _ _ c.fill_eight-used.ensures)

pub returns : goal.returns
returns c = eights_end_row _ _ _ _ _ _ c.loop-k.invariant c.requires (omega arith)
