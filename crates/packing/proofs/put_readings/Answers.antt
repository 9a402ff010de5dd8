-- `packing::put_readings` meets its contract: all pairs, and then a last single reading.
use mathlib.Core.Path.{◌≡◌, ap₂, ◌∙◌, sym}
use Prim.Native.Nat.{◌*◌, ◌/◌}
use native.Mathlib.Omega.{arith}
use mathlib.Core.List.{List}
use lib.IntN.{ℤ, pos}
use lib.ListN.{length, get_or, set}
use mir.Syntax.{w16}
use mir.Val.{to_z, of_z}
use mir.Facts.{to_z-of_z}
use Rattle.packing.specs.Layout.{unpacked}
use Rattle.packing.specs.LayoutLaws.{length-unpacked, reading_even}
use Rattle.packing.specs.PairLaws.{pairs_all, pairs_and_last}
use Rattle.packing.proofs.put_readings.Goals as goal

pub bounds-part-j : goal.bounds-part-j
bounds-part-j c = omega (arith, length-unpacked c.args.part.now)

pub bounds-part-j-then-n-eq1 : goal.bounds-part-j-then-n-eq1
bounds-part-j-then-n-eq1 c = omega (arith, length-unpacked c.args.part.now)

pub returns-then-n-eq1 : goal.returns-then-n-eq1
returns-then-n-eq1 c =
    let g = c in
    let d = g.args.readings.now in
    let p = g.args.part.now in
    let x = unpacked p in
    let k = length d / 2 in
    let stored : to_z w16 (of_z w16 c.reading_of.result) ≡ get_or x (2 * k) (pos 0) =
    to_z-of_z {w = w16} {z = c.reading_of.result} (record { sfits = c.reading_of.type_inv })
    ∙ c.reading_of.ensures
    ∙ rw (c.from-first.ensures, c.from-second.ensures) (sym (reading_even k p (omega (arith, length-unpacked p)))) in
    ap₂ (λ (l : List ℤ) (v : ℤ). set l (2 * k) v) c.put_reading_pairs.ensures stored
    ∙ pairs_and_last d x (pos 0) (sym g.requires) c.if-n-eq1.true

pub returns-else-n-eq1 : goal.returns-else-n-eq1
returns-else-n-eq1 c =
    let g = c in
    c.put_reading_pairs.ensures ∙ pairs_all g.args.readings.now (unpacked g.args.part.now) (pos 0) (sym g.requires) (omega arith)
