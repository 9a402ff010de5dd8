-- Information and frozen indices, the number k of information bits, and the words of a code (docs/RULES.md, §1).
-- A row of kinds has 1 where an index carries information and 0 where it is frozen; RM(r,m) is one such row.
use Rattle.std.specs.Prelude.{List, [], ◌∷◌, ◌++◌, map, ◌≡◌, cond, ℕ, zero, suc, ◌+◌, ◌-◌, ◌^◌, length, get_or, replicate, leb}
use Rattle.numbers.specs.Sums.{total, tabulate, sum}
use Rattle.words.specs.Bits.{Bits, ones}
use Rattle.words.specs.Word.{transform}

-- 1 where the number of ones in i is at least m - r
unfoldable pub kind : ℕ → ℕ → ℕ → ℕ
kind r m i = cond (leb (m - r) (ones m i)) 1 0

-- the row of kinds of RM(r,m)
unfoldable pub kinds : ℕ → ℕ → List ℕ
kinds r m = tabulate (kind r m) (2 ^ m)

-- m choose j
unfoldable pub choose : ℕ → ℕ → ℕ
choose m zero = 1
choose zero (suc j) = 0
choose (suc m) (suc j) = choose m j + choose m (suc j)

-- k as the rules write it: the sum of m choose j for j = 0..r
unfoldable pub dimension : ℕ → ℕ → ℕ
dimension r m = total (choose m) (suc r)

-- the row u: information bits fill the information indices in rising order, a frozen index carries 0
abbrev pub fill : List ℕ → List ℕ → List ℕ
fill [] b = []
fill (zero ∷ ks) b = 0 ∷ fill ks b
fill (suc k ∷ ks) [] = 0 ∷ fill ks []
fill (suc k ∷ ks) (a ∷ b) = a ∷ fill ks b

-- the bits of a row at the information indices
abbrev pub pick : List ℕ → List ℕ → List ℕ
pick [] u = []
pick (k ∷ ks) [] = []
pick (zero ∷ ks) (a ∷ u) = pick ks u
pick (suc k ∷ ks) (a ∷ u) = a ∷ pick ks u

-- the word of k information bits
abbrev pub encoded : ℕ → List ℕ → List ℕ → List ℕ
encoded m ks b = transform m (fill ks b)

-- all rows of k bits, 2^k in number
unfoldable pub all_bits : ℕ → List (List ℕ)
all_bits zero = [] ∷ []
all_bits (suc k) = map (λ b. 0 ∷ b) (all_bits k) ++ map (λ b. 1 ∷ b) (all_bits k)

-- k information bits, one for each information index
abbrev pub InformationBits : List ℕ → List ℕ → Type 0
InformationBits ks b = (length b ≡ sum ks) × Bits b

-- the row u is 0 at every frozen index
abbrev pub Frozen : List ℕ → List ℕ → Type 0
Frozen ks u = (i : ℕ) → get_or ks i 0 ≡ 0 → get_or u i 0 ≡ 0

-- x is a word: some k information bits give it
pub record Word (m : ℕ) (ks x : List ℕ) : Type 0 where
  pub bits : List ℕ
  pub long : length bits ≡ sum ks
  pub are_bits : Bits bits
  pub gives : encoded m ks bits ≡ x

-- the row of 2^m ones, a word of every RM(r,m)
abbrev pub all_ones : ℕ → List ℕ
all_ones m = replicate (2 ^ m) 1
