-- The number of ones in a row of bits, and the number of places where two rows differ.
use Rattle.std.specs.Prelude.{List, [], ◌∷◌, cond, ℕ, ◌+◌, eqb}
use Rattle.numbers.specs.Sums.{sum}

abbrev pub weight : List ℕ → ℕ
weight x = sum x

unfoldable pub distance : List ℕ → List ℕ → ℕ
distance [] y = 0
distance (a ∷ x) [] = 0
distance (a ∷ x) (b ∷ y) = cond (eqb a b) 0 1 + distance x y
