-- Bits and their sums modulo 2; the binary digits of an index (docs/RULES.md, §1).
use Rattle.std.specs.Prelude.{List, [], ◌∷◌, ℕ, zero, suc, ◌+◌, ◌^◌, ◌%◌, ◌/◌, ◌<◌, get_or}

-- each entry is 0 or 1
abbrev pub Bits : List ℕ → Type 0
Bits x = (i : ℕ) → get_or x i 0 < 2

-- entry by entry, the sum modulo 2
abbrev pub xors : List ℕ → List ℕ → List ℕ
xors [] y = []
xors (a ∷ x) [] = []
xors (a ∷ x) (b ∷ y) = (a + b) % 2 ∷ xors x y

-- bit p of i, bit 0 least
unfoldable pub digit : ℕ → ℕ → ℕ
digit p i = i / 2 ^ p % 2

-- the lowest m bits of i, the highest of them first
unfoldable pub digits : ℕ → ℕ → List ℕ
digits zero i = []
digits (suc m) i = digit m i ∷ digits m i

-- the number of ones among them
unfoldable pub ones : ℕ → ℕ → ℕ
ones zero i = 0
ones (suc m) i = ones m i + digit m i
