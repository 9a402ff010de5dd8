-- The loop's invariant: the first i images are repeated h further on, with the column added.
use Rattle.std.proofs.Common.{◌≡◌, length}
use Rattle.images.specs.Images.{Doubled}
use Rattle.images.proofs.add_column.Given as goal

abbrev pub invariant-loop-i : goal.invariant-loop-i
invariant-loop-i l = Doubled l.h l.i l.column l.initial.images l.images × (length l.images ≡ 256)
