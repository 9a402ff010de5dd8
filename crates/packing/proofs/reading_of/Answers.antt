-- `packing::reading_of` meets its contract: the bottom rail; below 2,048 the field itself; else the field minus 4,096.
use mathlib.Core.Path.{◌≡◌, ◌∙◌}
use Prim.Native.Nat.{◌-◌}
use native.Mathlib.Omega.{arith}
use borrow.Author.Tests.{eq-eqb, ne_eqb, lt-ltb, le-ltb}
use lib.IntN.{pos, negsuc, ◌-ℤ◌}
use mir.Syntax.{w16}
use mir.Val.{to_z}
use mir.Facts.{to_z_pos, to_z-of_z}
use Rattle.numbers.specs.PartsLaws.{fits_size}
use Rattle.packing.specs.Layout.{bottom_rail}
use Rattle.packing.specs.LayoutLaws.{below-zero}
use Rattle.packing.proofs.reading_of.Goals as goal
use Rattle.packing.proofs.reading_of.Goals.{Else-field-lt2048}

pub returns-then-field-eq-BOTTOM_RAIL : goal.returns-then-field-eq-BOTTOM_RAIL
returns-then-field-eq-BOTTOM_RAIL c = rw (eq-eqb c.args.field bottom_rail c.if-field-eq-BOTTOM_RAIL.true)

pub returns-then-field-lt2048 : goal.returns-then-field-lt2048
returns-then-field-lt2048 c =
    let f = c.args.field in
    rw (to_z_pos w16 {n = f} (omega arith), ne_eqb f bottom_rail c.if-field-eq-BOTTOM_RAIL.false, lt-ltb f 2048 c.if-field-lt2048.true)

-- the difference in the last arm
less : (c : Else-field-lt2048) → to_z w16 c.args.field -ℤ pos 4096 ≡ negsuc (4095 - c.args.field)
less c = rw (to_z_pos w16 {n = c.args.field} (omega arith)) (below-zero c.args.field c.requires)

pub overflow_sub-result : goal.overflow_sub-result
overflow_sub-result c = rw (less c) (fits_size (negsuc (4095 - c.args.field)) (omega arith))

pub returns : goal.returns
returns c =
    let f = c.args.field in
    to_z-of_z (overflow_sub-result c) ∙ rw (ne_eqb f bottom_rail c.if-field-eq-BOTTOM_RAIL.false, le-ltb f 2048 c.if-field-lt2048.false) (less c)
