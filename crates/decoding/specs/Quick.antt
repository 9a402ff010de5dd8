-- The quick reading's written steps (docs/RULES.md, §4).
use Rattle.std.specs.Prelude.{List, [], ◌∷◌, ◌++◌, ℕ, zero, suc, ◌^◌, min, ℤ, pos, negsuc, ◌+ℤ◌, ◌-ℤ◌, neg_ℤ, get_or, take, drop}
use Rattle.words.specs.Bits.{xors}
use Rattle.words.specs.Word.{transform}
use Rattle.words.specs.Kinds.{pick}
use Rattle.decoding.specs.Readings.{penalty}

-- the smaller of |x| and |y|, with the sign of their product; 0 if either is 0
abbrev pub lower : ℤ → ℤ → ℤ
lower (pos x) (pos y) = pos (min x y)
lower (pos x) (negsuc y) = neg_ℤ (pos (min x (suc y)))
lower (negsuc x) (pos y) = neg_ℤ (pos (min (suc x) y))
lower (negsuc x) (negsuc y) = pos (min (suc x) (suc y))

-- y + x where a is 0, y - x where a is 1
abbrev pub upper : ℤ → ℤ → ℕ → ℤ
upper x y zero = y +ℤ x
upper x y (suc a) = y -ℤ x

-- the row for the lower-index half of u, of a row's halves
abbrev pub lowers : List ℤ → List ℤ → List ℤ
lowers [] l = []
lowers (x ∷ k) [] = []
lowers (x ∷ k) (y ∷ l) = lower x y ∷ lowers k l

-- the row for the upper half, with a as the word that came from the lower one
abbrev pub uppers : List ℤ → List ℤ → List ℕ → List ℤ
uppers [] l a = []
uppers (x ∷ k) [] a = []
uppers (x ∷ k) (y ∷ l) [] = []
uppers (x ∷ k) (y ∷ l) (b ∷ a) = upper x y b ∷ uppers k l a

-- the same for a row that is cut at h
abbrev pub lower_row : ℕ → List ℤ → List ℤ
lower_row h l = lowers (take h l) (drop h l)

abbrev pub upper_row : ℕ → List ℤ → List ℕ → List ℤ
upper_row h l a = uppers (take h l) (drop h l) a

-- 1 exactly if the value is negative
abbrev pub hard : ℤ → ℕ
hard (pos n) = 0
hard (negsuc n) = 1

-- at one position: 0 at a frozen index, else the bit that the value speaks for
abbrev pub decide : ℕ → ℤ → ℕ
decide zero x = 0
decide (suc k) x = hard x

-- the word returned upward: (a + b, b)
unfoldable pub quick_word : ℕ → List ℕ → List ℤ → List ℕ
quick_word zero ks l = decide (get_or ks 0 0) (get_or l 0 (pos 0)) ∷ []
quick_word (suc m) ks l =
    let a = quick_word m (take (2 ^ m) ks) (lower_row (2 ^ m) l) in
    let b = quick_word m (drop (2 ^ m) ks) (upper_row (2 ^ m) l a) in
    xors a b ++ b

-- its information bits, and its penalty
unfoldable pub quick_bits : ℕ → List ℕ → List ℤ → List ℕ
quick_bits m ks l = pick ks (transform m (quick_word m ks l))

unfoldable pub quick_penalty : ℕ → List ℕ → List ℤ → ℕ
quick_penalty m ks l = penalty l (quick_word m ks l)
