-- `packing::put_reading_pairs` meets its contract: pass by pass the next two readings are stored.
use mathlib.Core.Path.{◌≡◌, ◌∙◌, sym}
use Prim.Native.Nat.{◌+◌, ◌*◌, ◌/◌, ◌≤◌}
use native.Mathlib.Omega.{arith}
use lib.IntN.{pos}
use lib.ListN.{length, length-set, get_or}
use mir.Syntax.{w16}
use mir.Val.{to_z, of_z}
use mir.Facts.{to_z-of_z}
use Rattle.packing.specs.Layout.{unpacked}
use Rattle.packing.specs.LayoutLaws.{length-unpacked, reading_even, reading_odd}
use Rattle.packing.specs.PairLaws.{front_two}
use Rattle.packing.proofs.put_reading_pairs.Goals as goal

pub bounds-part-j : goal.bounds-part-j
bounds-part-j c = omega (arith, length-unpacked c.args.part.now)

pub bounds-part-j-in-loop-j : goal.bounds-part-j-in-loop-j
bounds-part-j-in-loop-j c = omega (arith, length-unpacked c.args.part.now)

pub bounds-part-j-in-loop-j-2 : goal.bounds-part-j-in-loop-j-2
bounds-part-j-in-loop-j-2 c = omega (arith, length-unpacked c.args.part.now)

pub bounds-readings-j-in-loop-j : goal.bounds-readings-j-in-loop-j
bounds-readings-j-in-loop-j c =
    let o = c.loop-j in
    omega (arith, length-set o.readings (2 * o.j) (to_z w16 (of_z w16 c.reading_of.result)))

pub loop-j-preserved : goal.loop-j-preserved
loop-j-preserved c =
    let g = c.args in
    let o = c.loop-j in
    let p = g.part.now in
    let x = unpacked p in
    let long : 3 * o.j + 3 ≤ length p = omega (arith, length-unpacked p) in
    let first : to_z w16 (of_z w16 c.reading_of.result) ≡ get_or x (2 * o.j) (pos 0) =
    to_z-of_z {w = w16} {z = c.reading_of.result} (record { sfits = c.reading_of.type_inv })
    ∙ c.reading_of.ensures
    ∙ rw (c.from-a.ensures, c.from-b.ensures)
    (sym (reading_even o.j p (omega arith))) in
    let second : to_z w16 (of_z w16 c.reading_of-in-loop-j.result) ≡ get_or x (2 * o.j + 1) (pos 0) =
    to_z-of_z {w = w16} {z = c.reading_of-in-loop-j.result} (record { sfits = c.reading_of-in-loop-j.type_inv })
    ∙ c.reading_of-in-loop-j.ensures
    ∙ rw (c.from-b.ensures, c.from-c.ensures) (sym (reading_odd o.j p long)) in (
      rw (first, second, o.invariant.0) (front_two g.readings.now x (pos 0) o.j (omega arith) (omega arith)),
      simp length-set o.invariant.1,
    )

pub returns : goal.returns
returns c =
    let g = c.args in
    let o = c.loop-j in
    let e : o.j ≡ length g.readings.now / 2 = omega arith in
    rw (← e) o.invariant.0
