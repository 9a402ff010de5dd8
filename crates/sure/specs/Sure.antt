-- When the quick reading is surely right (docs/RULES.md, §4): the sum that shows it, the property, and all that follows from it.
-- A set of words is given by a row of kinds inside that of RM(r,m), such as that of RM(r,m) itself.
use Rattle.std.specs.Prelude.{◌≡◌, List, [], ◌∷◌, map, ℕ, zero, suc, ◌+◌, ◌-◌, ◌*◌, ◌^◌, ◌≤◌, ◌<◌, max, ℤ, pos, nat_abs, length, get_or}
use Rattle.numbers.specs.Parts.{up, down}
use Rattle.numbers.specs.Sums.{sum}
use Rattle.words.specs.Bits.{Bits}
use Rattle.words.specs.Kinds.{kinds, Frozen, Word}
use Rattle.words.specs.Distance.{distance}
use Rattle.decoding.specs.Readings.{penalty, Within}
use Rattle.decoding.specs.Quick.{hard, quick_word, quick_bits}
use Rattle.decoding.specs.Best.{least_penalty, gap, best_bits, best_word}
use Rattle.decoding.specs.Walk.{needed, tree}
use Rattle.decoding.specs.Answer.{found, answer}

-- the largest size of a row: the least M that is not below any
unfoldable pub largest : List ℤ → ℕ
largest [] = 0
largest (x ∷ l) = max (nat_abs x) (largest l)

-- M minus the reading where the word has 0, M plus the reading where it has 1; never below 0, as no reading's size is above M
abbrev pub doubt_at : ℕ → ℤ → ℕ → ℕ
doubt_at M x zero = M + down x - up x
doubt_at M x (suc b) = M + up x - down x

-- the sum of these
unfoldable pub doubt : ℕ → List ℤ → List ℕ → ℕ
doubt M [] c = 0
doubt M (x ∷ l) [] = 0
doubt M (x ∷ l) (b ∷ c) = doubt_at M x b + doubt M l c

-- the property of the word c for that M: M is at least 1, no reading's size is above M, and the sum is below M × 2^(m-r)
pub record Sure (M r m : ℕ) (l : List ℤ) (c : List ℕ) : Type 0 where
  pub at_least_one : 1 ≤ M
  pub within : Within M l
  pub long : length l ≡ 2 ^ m
  pub below : doubt M l c < M * 2 ^ (m - r)

-- a row of kinds that is 0 wherever RM(r,m)'s is
pub record Inside (r m : ℕ) (ks : List ℕ) : Type 0 where
  pub long : length ks ≡ 2 ^ m
  pub are_bits : Bits ks
  pub frozen : Frozen (kinds r m) ks

-- what follows for a word c of such a set, with its information bits
pub record SurelyRight (M r m : ℕ) (ks : List ℕ) (l : List ℤ) (c bits : List ℕ) : Type 0 where
  -- no other word of the whole code has the property for that M
  pub only : (x : List ℕ) → Word m (kinds r m) x → Sure M r m l x → x ≡ c
  -- the quick reading returns it
  pub quick-word : quick_word m ks l ≡ c
  pub quick_bits_lem : quick_bits m ks l ≡ bits
  -- it is the best word, and if there is a second word the gap is above 0
  pub best_word_lem : best_word m ks l ≡ c
  pub best_bits_lem : best_bits m ks l ≡ bits
  pub least_penalty_lem : least_penalty m ks l ≡ penalty l c
  pub gap_above : 0 < sum ks → 0 < gap m ks l
  -- the search answers with it if the whole tree is allowed
  pub answered : 0 < sum ks → (allowed : ℕ) → tree ks ≤ allowed
      → answer m ks l allowed ≡ found bits c (penalty l c) (gap m ks l) (needed m ks l)

-- the textbook rule: every reading has size 1, and fewer than half of 2^(m-r) speak for the other bit
pub record FewErrors (r m : ℕ) (l : List ℤ) (c : List ℕ) : Type 0 where
  pub long : length l ≡ 2 ^ m
  pub size-one : (i : ℕ) → i < 2 ^ m → nat_abs (get_or l i (pos 0)) ≡ 1
  pub few : 2 * distance (map hard l) c < 2 ^ (m - r)

-- the bound cannot be raised: two words of the code have the sum M × 2^(m-r) itself, so the quick reading misses one of them, and the gap is 0
pub record AtTheBound (M r m : ℕ) (l : List ℤ) (x y : List ℕ) : Type 0 where
  pub within : Within M l
  pub long : length l ≡ 2 ^ m
  pub first_word : Word m (kinds r m) x
  pub second_word_lem : Word m (kinds r m) y
  pub differ : x ≡ y → ⊥
  pub first-sum : doubt M l x ≡ M * 2 ^ (m - r)
  pub second-sum : doubt M l y ≡ M * 2 ^ (m - r)
  pub no_gap : gap m (kinds r m) l ≡ 0
