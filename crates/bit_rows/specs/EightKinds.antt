-- The kinds of eight indices in a row, and what filling a code's row eight at a time requires.
use Rattle.std.specs.Prelude.{◌≡◌, cond, List, ℕ, ◌^◌, ◌≤◌, leb, length}
use Rattle.numbers.specs.Sums.{tabulate, sum}
use Rattle.words.specs.Bits.{ones}
use Rattle.words.specs.Kinds.{kinds}

-- of the indices 0 .. 7, 1 where there are at least d ones
unfoldable pub eight_kinds : ℕ → List ℕ
eight_kinds d = tabulate (λ j. cond (leb d (ones 3 j)) 1 0) 8

pub record Fillable (r m : ℕ) (bits row : List ℕ) : Type 0 where
  pub crossed : r ≤ m
  pub eight : 3 ≤ m
  pub long_row : length row ≡ 2 ^ m
  pub enough : sum (kinds r m) ≤ length bits
