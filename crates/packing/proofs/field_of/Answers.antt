-- `packing::field_of` meets its contract: nothing wraps, and the remainder of the division is the field.
use mathlib.Core.Path.{◌≡◌, ap, ◌∙◌}
use native.Mathlib.Omega.{arith}
use lib.IntN.{ℤ, pos, ◌+ℤ◌}
use mir.Syntax.{w16}
use mir.Val.{SFits, to_z, of_z}
use mir.Facts.{to_z-of_z}
use Rattle.numbers.specs.PartsLaws.{fits_size}
use Rattle.packing.specs.LayoutLaws.{raised, raised-sum, raised_small, raised-field}
use Rattle.packing.proofs.field_of.Goals as goal
use Rattle.packing.proofs.field_of.Goals.{Start}

module _ (c : Start) where
  sum : to_z w16 (of_z w16 c.args.reading) +ℤ pos 4096 ≡ pos (raised c.args.reading)
  sum = rw (to_z-of_z c.ranges.reading) (raised-sum c.args.reading c.requires)

  fits : SFits w16 (pos (raised c.args.reading))
  fits = fits_size (pos (raised c.args.reading)) (omega (arith, raised_small c.args.reading c.requires))

  result : to_z w16 (of_z w16 (to_z w16 (of_z w16 c.args.reading) +ℤ pos 4096)) ≡ pos (raised c.args.reading)
  result = ap (λ (z : ℤ). to_z w16 (of_z w16 z)) sum ∙ to_z-of_z fits

pub overflow_add-result : goal.overflow_add-result
overflow_add-result c = rw (sum c) (fits c)

pub overflow_cast-result : goal.overflow_cast-result
overflow_cast-result c = rw (result c) (tt, omega (arith, raised_small c.args.reading c.requires))

pub returns : goal.returns
returns c = rw (result c) (raised-field c.args.reading c.requires, omega arith)
