-- The three published forms of a word agree, for every m: bit by bit, by the Kronecker power of [1 0; 1 1], and by halves.
use Rattle.std.specs.Prelude.{◌≡◌, refl, Bool, true, false, cond, ◌&&◌, List, [], ◌∷◌, ◌++◌, ℕ, zero, suc, ◌+◌, ◌*◌, ◌^◌, ◌%◌, ◌/◌, ◌<◌, length, get_or, take}
use Rattle.std.specs.Prelude.{drop, leb}
use Rattle.std.proofs.Common.{ap, ap₂, sym, ◌∙◌, arith, suc-ne-zero, le_refl, mul-one, one-mul, mul-zero, zero-mul, mod-eq_of_lt, pow_pos}
use Rattle.std.proofs.Math.Nat.{two-pow-succ, add-div_left, div-eq_of_lt, add-mod_left}
use Rattle.numbers.specs.Sums.{total, tabulate}
use Rattle.numbers.specs.SumsLaws.{total_same, tabulate_same}
use Rattle.numbers.specs.Halves.{length-first, length-second}
use Rattle.words.specs.Bits.{Bits, xors, digit}
use Rattle.words.specs.Word.{covers, word_bit, word_by_index, kronecker, word_by_matrix, transform}
use Rattle.words.specs.BitLaws.{Alike, second_alike, digit-first, digit-second}
use Rattle.words.specs.TransformLaws.{bits_take, bits_drop}
use Rattle.words.specs.TableLaws.{table, table-lower}

-- ---- what makes a table by a matrix the transform: it is 1 for m = 0, and by halves it has the blocks [1 0; 1 1]
by_blocks : (matrix : ℕ → ℕ → ℕ → ℕ) → (matrix 0 0 0 ≡ 1)
    → ((m i j : ℕ) → i < 2 ^ m → j < 2 ^ m → matrix (suc m) i j ≡ matrix m i j)
    → ((m i j : ℕ) → i < 2 ^ m → j < 2 ^ m → matrix (suc m) (2 ^ m + i) j ≡ matrix m i j)
    → ((m i j : ℕ) → i < 2 ^ m → j < 2 ^ m → matrix (suc m) i (2 ^ m + j) ≡ 0)
    → ((m i j : ℕ) → i < 2 ^ m → j < 2 ^ m → matrix (suc m) (2 ^ m + i) (2 ^ m + j) ≡ matrix m i j)
    → (m : ℕ) (u : List ℕ) → length u ≡ 2 ^ m → Bits u → table (matrix m) (2 ^ m) u ≡ transform m u
unfolding transform total tabulate
by_blocks matrix one a b c d zero [] e h = absurd (suc-ne-zero 0 (sym e))
by_blocks matrix one a b c d zero (x ∷ y ∷ u) e h = absurd (omega arith)
by_blocks matrix one a b c d zero (x ∷ []) e h = rw one (ap (λ (y : ℕ). y ∷ []) (omega (arith, h 0)))
by_blocks matrix one a b c d (suc m) u e h =
    let n = 2 ^ m in
    ap (λ (k : ℕ). table (matrix (suc m)) k u) (two-pow-succ m)
    ∙ table-lower n (matrix (suc m)) (matrix m) u (a m) (b m) (c m) (d m)
    ∙ ap₂ (λ (x y : List ℕ). xors x y ++ y)
    (by_blocks matrix one a b c d m (take n u) (length-first m u e) (bits_take n u h))
    (by_blocks matrix one a b c d m (drop n u) (length-second m u e) (bits_drop n u h))

-- ---- by the Kronecker power
module _ (m i : ℕ) (h : i < 2 ^ m) where
  second-div : (2 ^ m + i) / 2 ^ m ≡ 1
  second-div = rw (add-div_left i (pow_pos m), div-eq_of_lt)

  pub second-mod : (2 ^ m + i) % 2 ^ m ≡ i
  second-mod = add-mod_left (2 ^ m) i ∙ mod-eq_of_lt h

pub word_by_matrix_lem : (m : ℕ) (u : List ℕ) → length u ≡ 2 ^ m → Bits u → word_by_matrix m u ≡ transform m u
unfolding word_by_matrix kronecker
word_by_matrix_lem =
    by_blocks kronecker refl
    (λ m i j k l. rw (div-eq_of_lt k, div-eq_of_lt l, mod-eq_of_lt k, mod-eq_of_lt l) (one-mul (kronecker m i j)))
    (λ m i j k l. rw (second-div m i k, second-mod m i k, mod-eq_of_lt l) (one-mul (kronecker m i j)))
    (λ m i j k l. rw (div-eq_of_lt k, second-div m j l) (zero-mul _))
    (λ m i j k l. rw (second-div m i k, second-mod m i k, second-mod m j l) (one-mul (kronecker m i j)))

-- ---- bit by bit
covers_alike : (m j i t s : ℕ) → Alike m j t → Alike m i s → covers m j i ≡ covers m t s
unfolding covers
covers_alike zero j i t s h k = refl
covers_alike (suc m) j i t s h k =
    ap₂ ◌&&◌ (covers_alike m j i t s (λ p l. h p (omega arith)) (λ p l. k p (omega arith)))
    (ap₂ leb (h m (le_refl (suc m))) (k m (le_refl (suc m))))

-- the matrix that it is: 1 in row i and column j where every one-bit of j is also a one-bit of i
abbrev covering : ℕ → ℕ → ℕ → ℕ
covering m i j = cond (covers m j i) 1 0

covering-block : (m i j s t a b : ℕ) → Alike m i s → Alike m j t → digit m i ≡ a → digit m j ≡ b
    → covering (suc m) i j ≡ cond (leb b a) (covering m s t) 0
unfolding covers
covering-block m i j s t a b h k e f =
    rw (covers_alike m j i t s k h, e, f) (both (covers m t s) (leb b a))
  where
    both : (y z : Bool) → ◌≡◌ {A = ℕ} (cond (y && z) 1 0) (cond z (cond y 1 0) 0)
    both true z = refl
    both false true = refl
    both false false = refl

chosen : (z : Bool) (a : ℕ) → cond z a 0 ≡ a * cond z 1 0
chosen true a = sym (mul-one a)
chosen false a = sym (mul-zero a)

pub word_by_index_lem : (m : ℕ) (u : List ℕ) → length u ≡ 2 ^ m → Bits u → word_by_index m u ≡ transform m u
unfolding word_by_index word_bit covers
word_by_index_lem m u e h =
    tabulate_same (word_bit m u) (λ j. total (λ i. get_or u i 0 * covering m i j) (2 ^ m) % 2) (2 ^ m)
    (λ j k.
    ap (λ (s : ℕ). s % 2)
    (total_same (λ i. cond (covers m j i) (get_or u i 0) 0) (λ i. get_or u i 0 * covering m i j) (2 ^ m) (λ i l. chosen (covers m j i) (get_or u i 0))))
    ∙ by_blocks covering refl
    (λ n i j k l. covering-block n i j i j 0 0 (λ p q. refl) (λ p q. refl) (digit-first n i k) (digit-first n j l))
    (λ n i j k l. covering-block n (2 ^ n + i) j i j 1 0 (second_alike n i) (λ p q. refl) (digit-second n i k) (digit-first n j l))
    (λ n i j k l. covering-block n i (2 ^ n + j) i j 0 1 (λ p q. refl) (second_alike n j) (digit-first n i k) (digit-second n j l))
    (λ n i j k l. covering-block n (2 ^ n + i) (2 ^ n + j) i j 1 1 (second_alike n i) (second_alike n j) (digit-second n i k) (digit-second n j l))
    m u e h
