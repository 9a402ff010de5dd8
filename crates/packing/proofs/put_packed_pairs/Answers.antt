-- `packing::put_packed_pairs` meets its contract: pass by pass the next three bytes are stored.
use mathlib.Core.Path.{◌≡◌, sym}
use Prim.Native.Nat.{◌+◌, ◌*◌, ◌/◌, ◌%◌, ◌<◌}
use native.Mathlib.Omega.{arith}
use lib.IntN.{pos}
use lib.ListN.{length, length-set, get_or}
use mir.Facts.{to_z-of_z}
use Rattle.packing.specs.Layout.{field, packed}
use Rattle.packing.specs.LayoutLaws.{length_packed_any, byte_first, byte_middle, byte_last}
use Rattle.packing.specs.PairLaws.{front_three_by}
use Rattle.packing.proofs.put_packed_pairs.Goals as goal

pub field_of-a-requires : goal.field_of-a-requires
field_of-a-requires c = rw (to_z-of_z (record { sfits = c.field_of-arg-1.given })) (c.requires.0 (2 * c.loop-j.j))

pub field_of-b-requires : goal.field_of-b-requires
field_of-b-requires c = rw (to_z-of_z (record { sfits = c.field_of-arg-in-loop-j-1.given }))
    (c.requires.0 (2 * c.loop-j.j + 1))

pub bounds-part-j : goal.bounds-part-j
bounds-part-j c = omega (arith, length_packed_any c.args.readings.now)

pub bounds-part-j-in-loop-j : goal.bounds-part-j-in-loop-j
bounds-part-j-in-loop-j c = simp length-set (omega (arith, length_packed_any c.args.readings.now))

pub bounds-part-j-in-loop-j-2 : goal.bounds-part-j-in-loop-j-2
bounds-part-j-in-loop-j-2 c = simp length-set (omega (arith, length_packed_any c.args.readings.now))

pub loop-j-preserved : goal.loop-j-preserved
loop-j-preserved c =
    let g = c.args in
    let o = c.loop-j in
    let l = g.readings.now in
    let x = packed l in
    let a : c.field_of-a.result ≡ field (get_or l (2 * o.j) (pos 0)) =
    rw (to_z-of_z (record { sfits = c.field_of-arg-1.given })) at c.field_of-a.ensures.0 in
    let b : c.field_of-b.result ≡ field (get_or l (2 * o.j + 1) (pos 0)) =
    rw (to_z-of_z (record { sfits = c.field_of-arg-in-loop-j-1.given })) at c.field_of-b.ensures.0 in
    let more : 2 * o.j + 1 < length l = omega arith in
    let long : 3 * o.j + 2 < length x = omega (arith, length_packed_any l) in
    let first : c.field_of-a.result / 16 ≡ get_or x (3 * o.j) 0 = rw a (sym (byte_first o.j l (omega arith))) in
    let middle : 16 * (c.field_of-a.result % 16) + c.field_of-b.result / 256 ≡ get_or x (3 * o.j + 1) 0 =
    rw (a, b) (sym (byte_middle o.j l more)) in
    let last : c.field_of-b.result % 256 ≡ get_or x (3 * o.j + 2) 0 = rw b (sym (byte_last o.j l more)) in (
      rw o.invariant.0 (front_three_by g.part.now x 0 o.j _ _ _ first middle last (omega arith) long),
      simp length-set o.invariant.1,
    )

pub returns : goal.returns
returns c =
    let g = c.args in
    let o = c.loop-j in
    let e : o.j ≡ length g.readings.now / 2 = omega arith in
    rw (← e) o.invariant.0
