-- Sums and differences of floats that are whole numbers: a difference is exact, and so are both as the numbers that the floats are.
use Rattle.std.specs.Prelude.{◌≡◌, ◌+◌, ◌^◌, ◌≤◌, ◌<◌, ℤ, neg_ℤ, nat_abs, ◌+ℤ◌, ◌-ℤ◌, Float}
use Rattle.std.proofs.Common.{arith}
use Rattle.std.specs.Float.Ieee as Ieee
use Rattle.std.specs.Float.{binary32}
use Rattle.numbers.specs.PartsLaws.{parts, sum_parts, negated}
use Rattle.float_numbers.specs.Whole.{Represents, whole_of}
use Rattle.float_numbers.proofs.WholeLaws.{whole_of-is, represents_small, neg_represents, add_represents}

pub sub_represents : {x y : Float} {a b : ℤ} → Represents x a → Represents y b → nat_abs (a -ℤ b) ≤ 2 ^ 24 → Represents (Ieee.sub binary32 x y) (a -ℤ b)
unfolding Ieee.sub
sub_represents h k small = add_represents h (neg_represents k) small

pub whole_add : (x y : Float) → nat_abs (whole_of x) + nat_abs (whole_of y) < 2 ^ 24 → whole_of (Ieee.add binary32 x y) ≡ whole_of x +ℤ whole_of y
whole_add x y h =
    let a = whole_of x in
    let b = whole_of y in
    whole_of-is _ _
    (add_represents (represents_small x (omega arith)) (represents_small y (omega arith)) (omega (arith, parts a, parts b, parts (a +ℤ b), sum_parts a b)))

pub whole_sub : (x y : Float) → nat_abs (whole_of x) + nat_abs (whole_of y) < 2 ^ 24 → whole_of (Ieee.sub binary32 x y) ≡ whole_of x -ℤ whole_of y
whole_sub x y h =
    let a = whole_of x in
    let b = whole_of y in
    whole_of-is _ _
    (sub_represents (represents_small x (omega arith)) (represents_small y (omega arith))
    (omega (arith, parts a, parts b, parts (a -ℤ b), negated b, sum_parts a (neg_ℤ b))))
