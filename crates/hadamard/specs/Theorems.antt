-- The theorems on the transform (docs/RULES.md, §13), for every m and rows of whole numbers of any size. That they hold is proved in TheoremsMet.
use Rattle.std.specs.Prelude.{◌≡◌, List, ◌++◌, map, ℕ, suc, ◌+◌, ◌*◌, ◌^◌, ◌≤◌, ◌<◌, ℤ, neg_ℤ, length}
use Rattle.words.specs.Kinds.{kinds, Word}
use Rattle.decoding.specs.Readings.{turn, correlation, sizes, Within}
use Rattle.hadamard.specs.Hadamard.{sums, differences, hadamard, entry, first_order, correlations, SameEntries, times}

-- ---- Each of the 2^(m+1) words has plus or minus one entry of the transform as its correlation, each exactly once.
pub record WordsAndEntries (m : ℕ) (l : List ℤ) : Type 0 where
  -- each place and bit name a word, each word has a place and a bit, and no two name the same word
  pub named : (s e : ℕ) → s < 2 ^ m → e < 2 → Word m (kinds 1 m) (first_order m s e)
  pub has_place : (x : List ℕ) → Word m (kinds 1 m) x → (s : ℕ) × (e : ℕ) × (s < 2 ^ m) × (e < 2) × (first_order m s e ≡ x)
  pub once : (s e s' e' : ℕ) → s < 2 ^ m → e < 2 → s' < 2 ^ m → e' < 2 → first_order m s e ≡ first_order m s' e' → (s ≡ s') × (e ≡ e')
  -- the word's correlation is the entry at the place, negated where the bit is 1
  pub correlation-is : (s e : ℕ) → s < 2 ^ m → e < 2 → correlation l (first_order m s e) ≡ turn e (entry m l s)
  -- so the correlations of all words are the entries and their negatives, with the same repeats
  pub many : length (correlations m l) ≡ 2 ^ suc m
  pub each_once : SameEntries (correlations m l) (hadamard m l ++ map neg_ℤ (hadamard m l))

-- ---- The transform done twice, of a sum, and in range.
pub record TransformTheorems (m : ℕ) : Type 0 where
  -- Done twice it multiplies every reading by n.
  pub twice : (l : List ℤ) → length l ≡ 2 ^ m → hadamard m (hadamard m l) ≡ times (2 ^ m) l
  -- It is additive.
  pub of_sum : (k l : List ℤ) → length k ≡ 2 ^ m → length l ≡ 2 ^ m → hadamard m (sums k l) ≡ sums (hadamard m k) (hadamard m l)
  pub of_difference : (k l : List ℤ) → length k ≡ 2 ^ m → length l ≡ 2 ^ m → hadamard m (differences k l) ≡ differences (hadamard m k) (hadamard m l)
  -- While sums stay in range the code's transform is this one: it requires a sum of sizes below 2^31. For readings up to `largest` that sum
  -- is at most n times it, for their transform n times n times it, and for the sum of two rows at most that of both.
  pub in_range : (largest : ℕ) (l : List ℤ) → length l ≡ 2 ^ m → Within largest l → sizes l ≤ 2 ^ m * largest
  pub twice_in_range : (largest : ℕ) (l : List ℤ) → length l ≡ 2 ^ m → Within largest l → sizes (hadamard m l) ≤ 2 ^ m * (2 ^ m * largest)
  pub sum_in_range : (k l : List ℤ) → sizes (sums k l) ≤ sizes k + sizes l
  -- No entry is above the sum of sizes.
  pub within_sizes : (l : List ℤ) → Within (sizes l) (hadamard m l)
