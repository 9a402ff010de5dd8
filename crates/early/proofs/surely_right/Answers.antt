-- The test, with numbers that fit in 32 bits.
use mathlib.Core.Path.{ap, ap₂, ◌∙◌}
use Prim.Native.Nat.{ℕ, ◌-◌, ◌*◌, ◌^◌}
use lib.Dec.{ltb}
use Rattle.sure.specs.Sure.{doubt}
use Rattle.sure.specs.Test.{is_sure}
use Rattle.early.specs.TestedLaws.{summable, distance-made, bound_fits}
use Rattle.early.proofs.surely_right.Goals as goal

pub doubt-requires : goal.doubt-requires
doubt-requires c = summable c.requires c.largest_size-largest.ensures

pub overflow_mul-result : goal.overflow_mul-result
overflow_mul-result c =
    rw (distance-made c.requires) (record { fits = bound_fits c.requires c.largest_size-largest.ensures })

pub returns : goal.returns
unfolding is_sure
returns c =
    let M = c.largest_size-largest.ensures in
    let d = 2 ^ (c.args.code.m - c.args.code.r) in
    rw (distance-made c.requires)
    (ap₂ ltb (c.doubt.ensures ∙ ap (λ (n : ℕ). doubt n c.args.readings.now c.args.word.now) M) (ap (λ (n : ℕ). n * d) M))
