-- `packing::part_length` meets its contract: n is at most 256, so nothing wraps.
use native.Mathlib.Omega.{arith}
use mathlib.Core.Path.{ap}
use Prim.Native.Nat.{ℕ, ◌+◌, ◌*◌, ◌/◌}
use Rattle.packing.specs.Layout.{part_length}
use Rattle.code.specs.SoundLaws.{length_most}
use Rattle.packing.proofs.part_length.Goals as goal

pub overflow_mul-result : goal.overflow_mul-result
overflow_mul-result c = omega (arith, length_most c.requires)

pub overflow_add-result : goal.overflow_add-result
overflow_add-result c = omega (arith, length_most c.requires)

pub returns : goal.returns
unfolding part_length
returns c = ap (λ (n : ℕ). (3 * n + 1) / 2) c.length.ensures
