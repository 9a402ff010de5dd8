-- Where rows of running sums are stored in a scratch array: the row of n sums at [n .. 2n], so that the rows of 1, 2, 4, .. sums lie one behind the other.
use Rattle.std.specs.Prelude.{List, ℕ, ℤ, take, drop}
use Rattle.std.proofs.Math.Seq.{paste}

-- the row of n sums
abbrev pub row_of : ℕ → List ℤ → List ℤ
row_of n s = take n (drop n s)

-- the array with x as its row of n sums
abbrev pub with_row : ℕ → List ℤ → List ℤ → List ℤ
with_row n s x = paste s n x n
