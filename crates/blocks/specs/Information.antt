-- Blocks of information indices: whether all of a block carry information, and the path with the hard word's choices there.
use Rattle.std.specs.Prelude.{Bool, true, ◌&&◌, not, List, ◌++◌, ℕ, zero, suc, ◌+◌, ℤ, get_or, take, drop, eqb}
use Rattle.decoding.specs.Blocks.{hard_row}
use Rattle.rows.specs.Rows.{row_of}

-- the n kinds from index i on carry information
unfoldable pub all_chosen : List ℕ → ℕ → ℕ → Bool
all_chosen kinds i zero = true
all_chosen kinds i (suc n) = all_chosen kinds i n && not (eqb (get_or kinds (i + n) 0) 0)

-- the path y with the choices of the hard word of the row of n = 2^s sums at the n indices from i on
abbrev pub with_hard : ℕ → ℕ → ℕ → List ℤ → List ℕ → List ℕ
with_hard n s i rows y = take i y ++ (hard_row s (row_of n rows) ++ drop n (drop i y))
