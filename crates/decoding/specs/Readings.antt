-- Readings against a word: penalty, correlation, sum of sizes (docs/RULES.md, §3).
-- A positive reading speaks for bit 0, a negative one for bit 1.
use Rattle.std.specs.Prelude.{List, [], ◌∷◌, ℕ, zero, suc, ◌+◌, ◌^◌, ◌≤◌, ℤ, pos, nat_abs, ◌+ℤ◌, neg_ℤ, get_or}
use Rattle.numbers.specs.Parts.{up, down}

-- the size of a reading that the bit contradicts: a negative one for bit 0, a positive one for bit 1; else 0
abbrev pub loss : ℤ → ℕ → ℕ
loss x zero = down x
loss x (suc b) = up x

-- the reading, negated where the bit is 1: (1 - 2b)·x
abbrev pub turn : ℕ → ℤ → ℤ
turn zero x = x
turn (suc b) x = neg_ℤ x

unfoldable pub penalty : List ℤ → List ℕ → ℕ
penalty [] x = 0
penalty (r ∷ l) [] = 0
penalty (r ∷ l) (b ∷ x) = loss r b + penalty l x

unfoldable pub correlation : List ℤ → List ℕ → ℤ
correlation [] x = pos 0
correlation (r ∷ l) [] = pos 0
correlation (r ∷ l) (b ∷ x) = turn b r +ℤ correlation l x

-- the sum of the sizes of a row
unfoldable pub sizes : List ℤ → ℕ
sizes [] = 0
sizes (r ∷ l) = nat_abs r + sizes l

-- sums of whole readings stay below it, and every whole number below it is exact as a float of 32 bits: one bound serves both engines
abbrev pub sum_limit : ℕ
sum_limit = 2 ^ 24

-- the row, negated where the word c has 1
abbrev pub turns : List ℕ → List ℤ → List ℤ
turns [] l = []
turns (b ∷ c) [] = []
turns (b ∷ c) (r ∷ l) = turn b r ∷ turns c l

-- no reading's size is above the largest reading
abbrev pub Within : ℕ → List ℤ → Type 0
Within largest l = (i : ℕ) → nat_abs (get_or l i (pos 0)) ≤ largest
