-- Laws of the binary digits of an index: of an index in the first half, 0, 1, .. below 2^m, and of one in the second half, 2^m further on.
use Rattle.std.specs.Prelude.{◌≡◌, refl, ◌∷◌, ℕ, zero, suc, ◌+◌, ◌-◌, ◌*◌, ◌^◌, ◌≤◌, ◌<◌, length, get_or}
use Rattle.std.proofs.Common.{ap, ap₂, sym, subst, ◌∙◌, ⊎_elim, arith, le_refl, pow_pos, pow-add}
use Rattle.std.proofs.Math.Nat.{two-pow-succ, mul-add-div_right, add-div_left, div-eq_of_lt, suc-sub-suc}
use Rattle.std.specs.Int.Count as Count
use Rattle.numbers.specs.Choice.{lt_or_le}
use Rattle.words.specs.Bits.{Bits, digit, digits, ones}

pub digit_bit : (p i : ℕ) → digit p i < 2
unfolding digit
digit_bit p i = omega arith

pub ones_most : (m i : ℕ) → ones m i ≤ m
unfolding ones
ones_most zero i = omega arith
ones_most (suc m) i = omega (arith, ones_most m i, digit_bit m i)

pub digit-first : (m i : ℕ) → i < 2 ^ m → digit m i ≡ 0
unfolding digit
digit-first m i h = rw div-eq_of_lt

pub digit-second : (m i : ℕ) → i < 2 ^ m → digit m (2 ^ m + i) ≡ 1
unfolding digit
digit-second m i h = rw (add-div_left i (pow_pos m), div-eq_of_lt)

-- a power of two above a digit does not change it
digit_above : (p j i : ℕ) → digit p (2 ^ (suc j + p) + i) ≡ digit p i
unfolding digit
digit_above p j i = rw (pow-add 2 (suc j) p, mul-add-div_right (pow_pos p) (2 ^ suc j) i) (omega (arith, two-pow-succ j))

-- the digits below m agree
abbrev pub Alike : ℕ → ℕ → ℕ → Type 0
Alike m i k = (p : ℕ) → p < m → digit p i ≡ digit p k

pub second_alike : (m i : ℕ) → Alike m (2 ^ m + i) i
second_alike m i p h =
    let e : suc (m - suc p) + p ≡ m = omega arith in
    subst (λ (n : ℕ). digit p (2 ^ n + i) ≡ digit p i) e (digit_above p (m - suc p) i)

ones_alike : (m i k : ℕ) → Alike m i k → ones m i ≡ ones m k
unfolding ones
ones_alike zero i k h = refl
ones_alike (suc m) i k h = ap₂ ◌+◌ (ones_alike m i k (λ p l. h p (omega arith))) (h m (le_refl (suc m)))

pub digits_alike : (m i k : ℕ) → Alike m i k → digits m i ≡ digits m k
unfolding digits
digits_alike zero i k h = refl
digits_alike (suc m) i k h = ap₂ ◌∷◌ (h m (le_refl (suc m))) (digits_alike m i k (λ p l. h p (omega arith)))

pub length_digits : (m i : ℕ) → length (digits m i) ≡ m
unfolding digits
length_digits zero i = refl
length_digits (suc m) i = ap suc (length_digits m i)

pub bits_digits : (m i : ℕ) → Bits (digits m i)
unfolding digits
bits_digits zero i j = omega arith
bits_digits (suc m) i zero = digit_bit m i
bits_digits (suc m) i (suc j) = bits_digits m i j

pub digits_at : (m i j : ℕ) → j < m → get_or (digits m i) j 0 ≡ digit (m - suc j) i
unfolding digits
digits_at zero i j h = absurd (omega arith)
digits_at (suc m) i zero h = ap (λ (p : ℕ). digit p i) (omega arith)
digits_at (suc m) i (suc j) h = digits_at m i j (omega arith) ∙ ap (λ (p : ℕ). digit p i) (sym (suc-sub-suc m (suc j)))

pub ones-first : (m i : ℕ) → i < 2 ^ m → ones (suc m) i ≡ ones m i
unfolding ones
ones-first m i h = omega (arith, digit-first m i h)

pub ones-second : (m i : ℕ) → i < 2 ^ m → ones (suc m) (2 ^ m + i) ≡ suc (ones m i)
unfolding ones
ones-second m i h = omega (arith, digit-second m i h, ones_alike m (2 ^ m + i) i (second_alike m i))

-- a fact about every index of the first half and every index of the second half is one about every index
pub by_halves_lem : (P : ℕ → Type 0) (m : ℕ) → ((i : ℕ) → i < 2 ^ m → P i) → ((i : ℕ) → i < 2 ^ m → P (2 ^ m + i))
    → (i : ℕ) → i < 2 ^ suc m → P i
by_halves_lem P m f g i h =
    ⊎_elim (f i)
    (λ k.
    let e : 2 ^ m + (i - 2 ^ m) ≡ i = omega arith in
    subst P e (g (i - 2 ^ m) (omega (arith, two-pow-succ m))))
    (lt_or_le i (2 ^ m))

-- every index except the last has a bit that is 0
pub ones-early : (m i : ℕ) → suc i < 2 ^ m → ones m i < m
unfolding ones
ones-early zero i h = absurd (omega arith)
ones-early (suc m) i h =
    by_halves_lem (λ (n : ℕ). suc n < 2 ^ suc m → ones (suc m) n < suc m) m
    (λ n k l. omega (arith, ones-first m n k, ones_most m n))
    (λ n k l. omega (arith, ones-second m n k, ones-early m n (omega (arith, two-pow-succ m))))
    i (omega arith) h

-- the count of ones that the machine has an instruction for
pub ones-counted : (m i : ℕ) → i < 2 ^ m → Count.ones i ≡ ones m i
unfolding ones Count.ones
ones-counted zero zero h = refl
ones-counted zero (suc i) h = absurd (omega arith)
ones-counted (suc m) i h =
    by_halves_lem (λ (n : ℕ). Count.ones n ≡ ones (suc m) n) m
    (λ n k. ones-counted m n k ∙ sym (ones-first m n k))
    (λ n k.
    let e : 2 ^ m + n ≡ 1 * 2 ^ m + n = omega arith in
    ap Count.ones e ∙ omega (arith, Count.ones_cat m 1 n k, Count.ones-ones 1, ones-counted m n k, ones-second m n k))
    i h
