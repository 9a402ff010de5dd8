-- The Hadamard transform of a row of 2^m whole numbers, the words of RM(1,m) that its entries stand for, and what looking at all its entries finds.
-- A word of RM(1,m) is named by a place s below 2^m and a bit e; its correlation with the row is entry s, negated where e is 1.
use Rattle.std.specs.Prelude.{◌≡◌, cond, List, [], ◌∷◌, ◌++◌, map, ℕ, zero, suc, ◌+◌, ◌-◌, ◌*◌, ◌^◌, ◌%◌, ◌/◌, ◌≤◌, ◌<◌, ℤ, pos, nat_abs, ◌+ℤ◌, ◌*ℤ◌, eqb}
use Rattle.std.specs.Prelude.{length, get_or, take, drop}
use Rattle.numbers.specs.Sums.{sum, tabulate}
use Rattle.words.specs.Bits.{digit, digits, ones}
use Rattle.words.specs.Kinds.{kinds, encoded, all_bits}
use Rattle.decoding.specs.Readings.{turn, correlation, sizes}
use Rattle.decoding.specs.Quick.{hard}
use Rattle.decoding.specs.Answer.{Answer, found, tied}

-- ---- the transform
-- entry by entry x + y, or x - y where e is 1
abbrev pub combined : ℕ → List ℤ → List ℤ → List ℤ
combined e [] l = []
combined e (x ∷ k) [] = []
combined e (x ∷ k) (y ∷ l) = (x +ℤ turn e y) ∷ combined e k l

abbrev pub sums : List ℤ → List ℤ → List ℤ
sums k l = combined 0 k l

abbrev pub differences : List ℤ → List ℤ → List ℤ
differences k l = combined 1 k l

-- by adding and subtracting halves
unfoldable pub hadamard : ℕ → List ℤ → List ℤ
hadamard zero l = l
hadamard (suc m) l = hadamard m (sums (take (2 ^ m) l) (drop (2 ^ m) l)) ++ hadamard m (differences (take (2 ^ m) l) (drop (2 ^ m) l))

-- every entry times n
abbrev pub times : ℕ → List ℤ → List ℤ
times n l = map (λ x. pos n *ℤ x) l

-- entry s of the transform
abbrev pub entry : ℕ → List ℤ → ℕ → ℤ
entry m l s = get_or (hadamard m l) s (pos 0)

-- ---- the words
-- the number of common ones of s and j, among the lowest m bits
unfoldable pub common : ℕ → ℕ → ℕ → ℕ
common zero s j = 0
common (suc m) s j = common m s j + digit m s * digit m j

-- the word of place s and bit e
unfoldable pub first_order : ℕ → ℕ → ℕ → List ℕ
first_order m s e = tabulate (λ j. (common m s j + e) % 2) (2 ^ m)

-- the information bits of that word: the digits of s, and a bit that makes their sum e, modulo 2
unfoldable pub bits_of : ℕ → ℕ → ℕ → List ℕ
bits_of m s e = digits m s ++ (ones m s + e) % 2 ∷ []

-- and back: the place that m + 1 information bits name by all but the last; the bit is their sum modulo 2
unfoldable pub place_named : ℕ → List ℕ → ℕ
place_named zero b = 0
place_named (suc m) [] = 0
place_named (suc m) (a ∷ b) = a * 2 ^ m + place_named m b

-- ---- the correlations of all 2^(m+1) words of RM(1,m), by their information bits
unfoldable pub correlations : ℕ → List ℤ → List ℤ
correlations m l = map (λ b. correlation l (encoded m (kinds 1 m) b)) (all_bits (sum (kinds 1 m)))

-- the same entries with the same repeats, in some order: any count over one is the count over the other
abbrev pub SameEntries : List ℤ → List ℤ → Type 0
SameEntries k l = (g : ℤ → ℕ) → sum (map g k) ≡ sum (map g l)

-- ---- the largest size of a row, its place, and the largest size at the other places
pub record LargestTwo (h : List ℤ) (place best second : ℕ) : Type 0 where
  pub within : place < length h
  pub has : nat_abs (get_or h place (pos 0)) ≡ best
  pub most : second ≤ best
  pub others : (i : ℕ) → (i ≡ place → ⊥) → nat_abs (get_or h i (pos 0)) ≤ second
  -- some other place has it
  pub other : ℕ
  pub other_within : other < length h
  pub differs : other ≡ place → ⊥
  pub other_has : nat_abs (get_or h other (pos 0)) ≡ second

-- ---- the answer that they give, with these visits; the word is that of the place, with bit 1 exactly if its entry is negative
abbrev pub by_place : ℕ → List ℤ → ℕ → ℕ → ℕ → ℕ → Answer
by_place m l place best second visits =
    let e = hard (entry m l place) in
    cond (eqb best second) (tied ((sizes l - best) / 2) visits)
    (found (bits_of m place e) (first_order m place e) ((sizes l - best) / 2) ((best - second) / 2) visits)
