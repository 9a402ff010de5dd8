-- What the walk's scratch rows are: the rows of the blocks that hold an index, where the bytes y begin with the path's bits.
use Rattle.std.specs.Prelude.{◌≡◌, List, Bool, false, cond, ℕ, zero, suc, ◌+◌, ◌-◌, ◌*◌, ◌^◌, ◌/◌, ◌%◌, ◌≤◌, ◌<◌, ℤ, length, take, drop, eqb, leb}
use Rattle.std.specs.Int.Bits.{bit_xor}
use Rattle.words.specs.Bits.{Bits}
use Rattle.words.specs.Word.{transform}
use Rattle.decoding.specs.Quick.{lower_row, upper_row}
use Rattle.decoding.specs.Readings.{sizes, sum_limit}
use Rattle.rows.specs.Rows.{row_of, with_row}

-- where the block of 2^t indices that holds i starts
abbrev pub start_of : ℕ → ℕ → ℕ
start_of t i = i / 2 ^ t * 2 ^ t

-- the bits of the block of 2^t indices before it
abbrev pub left_of : ℕ → ℕ → List ℕ → List ℕ
left_of t i y = take (2 ^ t) (drop (start_of t i - 2 ^ t) y)

-- the row of the block of 2^t indices that holds i, from the row r of the block of twice as many: it is the second half of that, or the first
abbrev pub below : ℕ → ℕ → List ℕ → List ℤ → List ℤ
below t i y r = cond (eqb (i / 2 ^ t % 2) 1) (upper_row (2 ^ t) r (transform t (left_of t i y))) (lower_row (2 ^ t) r)

-- the row of the block of 2^(m-d) indices that holds i, from the row l of all 2^m
unfoldable pub row_at : ℕ → ℕ → List ℕ → List ℤ → ℕ → List ℤ
row_at m i y l zero = l
row_at m i y l (suc d) = below (m - suc d) i y (row_at m i y l d)

-- the array s with the row of 2^t sums made for index i, from the row of twice as many
abbrev pub new_row : ℕ → ℕ → List ℕ → List ℤ → List ℤ
new_row t i y s = with_row (2 ^ t) s (below t i y (row_of (2 ^ t + 2 ^ t) s))

-- with all rows of less than 2^k sums made, one after the other
unfoldable pub remade : ℕ → ℕ → List ℕ → List ℤ → List ℤ
remade zero i y s = s
remade (suc t) i y s = remade t i y (new_row t i y s)

-- the walk's arrays: of sums, and of the path's bits
pub record Arrays (s : List ℤ) (y : List ℕ) : Type 0 where
  pub long_rows : length s ≡ 256
  pub long_path : length y ≡ 256
  pub bits : Bits y

-- In s the rows of 2^t sums are made for index i, from t = k on.
pub record Made (m : ℕ) (l : List ℤ) (y : List ℕ) (i k : ℕ) (s : List ℤ) : Type 0 where
  pub made : (t : ℕ) → k ≤ t → t < m → row_of (2 ^ t) s ≡ row_at m i y l (m - t)

-- In s the rows of the blocks that hold index i and start at b or before are made for it: what the path says from b on does not touch them.
pub record RowsFor (m : ℕ) (l : List ℤ) (y : List ℕ) (i b : ℕ) (s : List ℤ) : Type 0 where
  pub rows : (t : ℕ) → t < m → start_of t i ≤ b → row_of (2 ^ t) s ≡ row_at m i y l (m - t)

-- Rows of more than 2^t sums that are made for index j are those of index i, too, whatever the path says from i - 1 on.
pub record Top (m j i t : ℕ) : Type 0 where
  pub within : t < m
  pub same : suc t < m → j / 2 ^ suc t ≡ i / 2 ^ suc t
  pub before : suc t < m → start_of (suc t) i ≤ i - 1

-- the block of twice as many indices as the largest one that starts at i holds j, too: j and i differ in no digit above the lowest one of i
abbrev pub follows : ℕ → ℕ → Bool
follows j i = cond (eqb i 0) false (leb (bit_xor j i) (bit_xor i (i - 1)))

-- no digit of x above t is 1, and t is a digit of x's range
pub record Highest (x t : ℕ) : Type 0 where
  pub above : x < 2 ^ suc t
  pub inside : (m : ℕ) → 0 < m → x < 2 ^ m → t < m

-- what the value asks: the first 2^m readings l, the bytes y that begin with the path, and rows s that are made for an index j; 256 is the arrays' length
pub record ValueReady (m : ℕ) (l : List ℤ) (y : List ℕ) (j i : ℕ) (s : List ℤ) : Type 0 where
  pub room : 2 ^ m ≤ 256
  pub inside : i < 2 ^ m
  pub was_inside : j < 2 ^ m
  pub long : length l ≡ 2 ^ m
  pub small : sizes l < sum_limit
  pub bits : Bits y
  pub before : RowsFor m l y j (i - 1) s

-- what making the row of 2^k sums and those below it asks: the rows of more sums are made
pub record RowsReady (m : ℕ) (l : List ℤ) (y : List ℕ) (i k : ℕ) (s : List ℤ) : Type 0 where
  pub room : 2 ^ m ≤ 256
  pub inside : i < 2 ^ m
  pub some : k < m
  pub long : length l ≡ 2 ^ m
  pub small : sizes l < sum_limit
  pub rows : Made m l y i (suc k) s

-- what making the rows of less than 2^k sums by straight code asks
pub record LowReady (k i : ℕ) (y : List ℕ) (s : List ℤ) : Type 0 where
  pub few : k ≤ 3
  pub short : i < 256
  pub arrays : Arrays s y
  pub small : sizes (row_of (2 ^ k) s) < sum_limit
