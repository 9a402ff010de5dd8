-- Duality: RM(m-r-1,m) is the dual code of RM(r,m). A row of n bits is a word of the one exactly if it has an even number of common ones with every word of
-- the other; the dimensions of the two add up to 2^m.
use Rattle.std.specs.Prelude.{List, [], ◌∷◌, ℕ, ◌+◌, ◌*◌}

-- the number of places where both rows have 1
unfoldable pub common_ones : List ℕ → List ℕ → ℕ
common_ones [] y = 0
common_ones (a ∷ x) [] = 0
common_ones (a ∷ x) (b ∷ y) = a * b + common_ones x y
