-- The laws of arithmetic that floats meet.
use Rattle.std.specs.Prelude.{◌≡◌, refl, List, [], ◌∷◌, map, ◌+◌, ◌≤◌, ◌<◌, ℤ, nat_abs, Float}
use Rattle.std.proofs.Common.{ap, arith}
use Rattle.decoding.specs.Readings.{sizes, sum_limit}
use Rattle.float_numbers.specs.Whole.{whole_of, wholes}

pub each_float : (l : List Float) → wholes l ≡ map whole_of l
each_float [] = refl
each_float (x ∷ l) = ap (λ (k : List ℤ). whole_of x ∷ k) (each_float l)

pub small_pair : (l : List ℤ) (x y : ℤ) → sizes l < sum_limit → Unit {0} → Unit {0} → nat_abs x + nat_abs y ≤ sizes l → nat_abs x + nat_abs y < sum_limit
small_pair l x y h _ _ k = omega arith
