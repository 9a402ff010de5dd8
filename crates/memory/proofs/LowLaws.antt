-- Laws of the rows of up to four sums, made by straight code: words of two and four bits, one row after the other, and the index that starts a block.
use Rattle.std.specs.Prelude.{◌≡◌, refl, List, [], ◌∷◌, ℕ, suc, ◌+◌, ◌-◌, ◌*◌, ◌^◌, ◌/◌, ◌%◌, ◌≤◌, ◌<◌, ℤ, length, get_or, set, take, drop}
use Rattle.std.proofs.Common.{ap, sym, ◌∙◌, subst, ⊎_elim, arith, mod-lt, length-drop, get_or-drop, pow_pos, pow_mono}
use Rattle.std.proofs.Math.Nat.{two-pow-succ, zero-mod}
use Rattle.std.proofs.lemmas.Nat.{mod-pow-add}
use Rattle.std.proofs.Math.Pow.{mod-mod-pow, split}
use Rattle.numbers.specs.Lowest.{LowestOne}
use Rattle.words.specs.Word.{transform}
use Rattle.decoding.specs.Readings.{sizes, sum_limit}
use Rattle.decoding.specs.Quick.{lower_row}
use Rattle.rows.specs.Rows.{row_of, with_row}
use Rattle.rows.specs.RowLaws.{length-row_of}
use Rattle.rows.specs.PlaceLaws.{length-with_row, row_of-with_row}
use Rattle.memory.specs.Memory.{below, new_row, remade, LowReady}
use Rattle.memory.proofs.RowLaws.{digit_cases, below-lower, sizes-below, length-below}

-- ---- the words
word_2 : (x : List ℕ) → 2 ≤ length x → transform 1 (take 2 x) ≡ (get_or x 0 0 + get_or x 1 0) % 2 ∷ get_or x 1 0 ∷ []
unfolding transform
word_2 [] h = absurd (omega arith)
word_2 (a ∷ []) h = absurd (omega arith)
word_2 (a ∷ b ∷ x) h = refl

word_4 : (x : List ℕ) → 4 ≤ length x
    → transform 2 (take 4 x) ≡ ((get_or x 0 0 + get_or x 1 0) % 2 + (get_or x 2 0 + get_or x 3 0) % 2) % 2 ∷ (get_or x 1 0 + get_or x 3 0) % 2
    ∷ (get_or x 2 0 + get_or x 3 0) % 2 ∷ get_or x 3 0 ∷ []
unfolding transform
word_4 [] h = absurd (omega arith)
word_4 (a ∷ []) h = absurd (omega arith)
word_4 (a ∷ b ∷ []) h = absurd (omega arith)
word_4 (a ∷ b ∷ c ∷ []) h = absurd (omega arith)
word_4 (a ∷ b ∷ c ∷ d ∷ x) h = refl

set_4 : (w : List ℕ) (a b c d : ℕ) → 4 ≤ length w → take 4 (set (set (set (set w 0 a) 1 b) 2 c) 3 d) ≡ a ∷ b ∷ c ∷ d ∷ []
set_4 [] a b c d h = absurd (omega arith)
set_4 (x ∷ []) a b c d h = absurd (omega arith)
set_4 (x ∷ y ∷ []) a b c d h = absurd (omega arith)
set_4 (x ∷ y ∷ z ∷ []) a b c d h = absurd (omega arith)
set_4 (x ∷ y ∷ z ∷ v ∷ w) a b c d h = refl

-- a word of two bits is all of itself
module _ {p : List ℕ} (y : List ℕ) (long : 2 ≤ length y) (e : p ≡ transform 1 (take 2 y)) where
  pub whole_pair : take 2 p ≡ transform 1 (take 2 y)
  whole_pair = ap (take 2) (e ∙ word_2 y long) ∙ sym (word_2 y long)

module _ (y : List ℕ) (e : ℕ) (room : e ≤ length y) where
  -- bit k of the last n before e
  last : (n k j : ℕ) → n ≤ e → j ≡ e - n + k → get_or (drop (e - n) y) k 0 ≡ get_or y j 0
  last n k j h is = get_or-drop (e - n) y k 0 ∙ ap (λ (i : ℕ). get_or y i 0) (sym is)

  pub pair_is : 2 ≤ e → (get_or y (e - 2) 0 + get_or y (e - 1) 0) % 2 ∷ get_or y (e - 1) 0 ∷ [] ≡ transform 1 (take 2 (drop (e - 2) y))
  pair_is h =
      let a = last 2 0 (e - 2) h (omega arith) in
      let b = last 2 1 (e - 1) h (omega arith) in
      sym (word_2 (drop (e - 2) y) (simp length-drop (omega arith)) ∙ rw (a, b))

  pub made_word_4 : (w : List ℕ) → 4 ≤ e → 4 ≤ length w → {p q r : ℕ}
      → p ≡ ((get_or y (e - 4) 0 + get_or y (e - 3) 0) % 2 + (get_or y (e - 2) 0 + get_or y (e - 1) 0) % 2) % 2
      → q ≡ (get_or y (e - 3) 0 + get_or y (e - 1) 0) % 2 → r ≡ (get_or y (e - 2) 0 + get_or y (e - 1) 0) % 2
      → take 4 (set (set (set (set w 0 p) 1 q) 2 r) 3 (get_or y (e - 1) 0)) ≡ transform 2 (take 4 (drop (e - 4) y))
  made_word_4 w h k {p} {q} {r} ep eq er =
      let a = last 4 0 (e - 4) h (omega arith) in
      let b = last 4 1 (e - 3) h (omega arith) in
      let c = last 4 2 (e - 2) h (omega arith) in
      let d = last 4 3 (e - 1) h (omega arith) in
      set_4 w p q r (get_or y (e - 1) 0) k
      ∙ sym (word_4 (drop (e - 4) y) (simp length-drop (omega arith)) ∙ rw (a, b, c, d, ep, eq, er))

-- ---- one row after the other
module _ {t i : ℕ} {y : List ℕ} {s : List ℤ} (r : LowReady (suc t) i y s) where
  fits : 2 ^ suc t + 2 ^ suc t ≤ 256
  fits = omega (arith, two-pow-succ (suc t), pow_mono {i = suc (suc t)} {j = 4} (omega (arith, r.few)))

  pub low-room : 2 ^ t + 2 ^ t + (2 ^ t + 2 ^ t) ≤ length s
  low-room = omega (arith, two-pow-succ t, fits, r.arrays.long_rows)

  pub low_small : sizes (row_of (2 ^ t + 2 ^ t) s) < sum_limit
  low_small = rw (← (two-pow-succ t)) r.small

  long_new : length (below t i y (row_of (2 ^ t + 2 ^ t) s)) ≡ 2 ^ t
  long_new =
      length-below t i y (row_of (2 ^ t + 2 ^ t) s) (length-row_of (2 ^ t + 2 ^ t) s low-room ∙ sym (two-pow-succ t))
      (omega (arith, r.short, r.arrays.long_path))

  -- the row is made, and the next one may be
  pub low-next : {s' : List ℤ} → s' ≡ new_row t i y s → LowReady t i y s'
  low-next {s'} e =
      record {
        few = omega (arith, r.few);
        short = r.short;
        arrays = record {
          long_rows = ap length e ∙ length-with_row (2 ^ t) s (below t i y (row_of (2 ^ t + 2 ^ t) s)) (omega (arith, low-room)) long_new ∙ r.arrays.long_rows;
          long_path = r.arrays.long_path;
          bits = r.arrays.bits;
        };
        small = rw (ap (row_of (2 ^ t)) e ∙ row_of-with_row (2 ^ t) s (below t i y (row_of (2 ^ t + 2 ^ t) s)) (omega (arith, low-room)) long_new)
            (omega (arith, low_small, sizes-below t i y (row_of (2 ^ t + 2 ^ t) s)));
      }

pub remade-one : (i : ℕ) (y : List ℕ) (s : List ℤ) {s' : List ℤ} → s' ≡ new_row 0 i y s → s' ≡ remade 1 i y s
unfolding remade
remade-one i y s e = e

pub remade-more : (t i : ℕ) (y : List ℕ) (s : List ℤ) {s₁ s' : List ℤ} → s₁ ≡ new_row t i y s → s' ≡ remade t i y s₁ → s' ≡ remade (suc t) i y s
unfolding remade
remade-more t i y s e f = f ∙ ap (remade t i y) e

-- ---- where i starts a block of 2^t indices and none of twice as many
digits : (t i : ℕ) → i % 2 ^ suc t ≡ i / 2 ^ t % 2 * 2 ^ t + i % 2 ^ t
digits t i = let e : suc t ≡ 1 + t = omega arith in ap (λ (k : ℕ). i % 2 ^ k) e ∙ mod-pow-add i 1 t

module _ (t i : ℕ) (o : LowestOne t i) where
  pub start_odd : i / 2 ^ t % 2 ≡ 1
  start_odd =
      ⊎_elim
      (λ (k : i / 2 ^ t % 2 ≡ 1). k)
      (λ (k : i / 2 ^ t % 2 ≡ 0). let e : i % 2 ^ suc t ≡ 0 * 2 ^ t + i % 2 ^ t = digits t i ∙ ap (λ (n : ℕ). n * 2 ^ t + i % 2 ^ t) k in
      absurd (omega (arith, o, e, mod-lt i (pow_pos t), pow_pos t)))
      (digit_cases (i / 2 ^ t))

  none_left : i % 2 ^ t ≡ 0
  none_left =
      let e : i % 2 ^ suc t ≡ 1 * 2 ^ t + i % 2 ^ t = digits t i ∙ ap (λ (n : ℕ). n * 2 ^ t + i % 2 ^ t) start_odd in
      omega (arith, o, e)

  pub start-here : i / 2 ^ t * 2 ^ t ≡ i
  start-here = omega (arith, split i t, none_left)

  start_even : (u : ℕ) → u < t → i / 2 ^ u % 2 ≡ 0
  start_even u h =
      let n : t - suc u + suc u ≡ t = omega arith in
      let z : i % 2 ^ suc u ≡ 0 = sym (subst (λ (k : ℕ). i % 2 ^ k % 2 ^ suc u ≡ i % 2 ^ suc u) n (mod-mod-pow i (t - suc u) (suc u)))
      ∙ ap (λ (k : ℕ). k % 2 ^ suc u) none_left ∙ zero-mod (2 ^ suc u) in
      ⊎_elim
      (λ (k : i / 2 ^ u % 2 ≡ 1). let e : i % 2 ^ suc u ≡ 1 * 2 ^ u + i % 2 ^ u = digits u i ∙ ap (λ (n : ℕ). n * 2 ^ u + i % 2 ^ u) k in
      absurd (omega (arith, z, e, pow_pos u)))
      (λ (k : i / 2 ^ u % 2 ≡ 0). k)
      (digit_cases (i / 2 ^ u))

  -- so the rows below are lower rows
  pub lower-new : (u h : ℕ) (y : List ℕ) (s : List ℤ) {s' : List ℤ} → u < t → h ≡ 2 ^ u
      → s' ≡ with_row h s (lower_row h (row_of (h + h) s)) → s' ≡ new_row u i y s
  lower-new u h y s k is f = f ∙ rw is (ap (with_row (2 ^ u) s) (sym (below-lower u i y (row_of (2 ^ u + 2 ^ u) s) (start_even u k))))
