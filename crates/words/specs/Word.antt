-- The word of a row u of 2^m bits, in three published forms (docs/RULES.md, §1): bit by bit, by the Kronecker power, and by halves.
use Rattle.std.specs.Prelude.{List, ◌++◌, Bool, true, cond, ◌&&◌, ℕ, zero, suc, ◌*◌, ◌^◌, ◌%◌, ◌/◌, get_or, take, drop, leb}
use Rattle.numbers.specs.Sums.{total, tabulate}
use Rattle.words.specs.Bits.{xors, digit}

-- every one-bit of j is also a one-bit of i, among the lowest m bits
unfoldable pub covers : ℕ → ℕ → ℕ → Bool
covers zero j i = true
covers (suc m) j i = covers m j i && leb (digit m j) (digit m i)

-- x_j, the sum modulo 2 of all u_i where every one-bit of j is also a one-bit of i
unfoldable pub word_bit : ℕ → List ℕ → ℕ → ℕ
word_bit m u j = total (λ i. cond (covers m j i) (get_or u i 0) 0) (2 ^ m) % 2

unfoldable pub word_by_index : ℕ → List ℕ → List ℕ
word_by_index m u = tabulate (word_bit m u) (2 ^ m)

-- the matrix [1 0; 1 1], by row and column
abbrev pub kernel : ℕ → ℕ → ℕ
kernel zero zero = 1
kernel zero (suc j) = 0
kernel (suc i) j = 1

-- the entry of its m-fold Kronecker power in row i and column j
unfoldable pub kronecker : ℕ → ℕ → ℕ → ℕ
kronecker zero i j = 1
kronecker (suc m) i j = kernel (i / 2 ^ m) (j / 2 ^ m) * kronecker m (i % 2 ^ m) (j % 2 ^ m)

-- u times that matrix, modulo 2
unfoldable pub word_by_matrix : ℕ → List ℕ → List ℕ
word_by_matrix m u = tabulate (λ j. total (λ i. get_or u i 0 * kronecker m i j) (2 ^ m) % 2) (2 ^ m)

-- by halves: the sum of the halves' words, then the second half's
unfoldable pub transform : ℕ → List ℕ → List ℕ
transform zero u = u
transform (suc m) u = xors (transform m (take (2 ^ m) u)) (transform m (drop (2 ^ m) u)) ++ transform m (drop (2 ^ m) u)
