-- Numbers to binary digits and back, and digit by digit from the front.
use Rattle.std.specs.Prelude.{◌≡◌, refl, List, [], ◌∷◌, ℕ, zero, suc, ◌+◌, ◌-◌, ◌*◌, ◌^◌, ◌≤◌, ◌<◌, length, get_or, drop}
use Rattle.std.proofs.Common.{ap, ap₂, ◌∙◌, arith, add-mul, mul-add, mul_assoc, length-drop, drop_of_length-le, drop-cons}
use Rattle.std.proofs.Math.Nat.{two-pow-succ}
use Rattle.words.specs.Bits.{Bits, digit, digits}
use Rattle.words.specs.BitLaws.{digit-first, digit-second, second_alike, by_halves_lem, length_digits, digits_alike}
use Rattle.guarded.specs.Guard.{of_digits}

-- ---- binary digits and back
pub number_digits : (w x : ℕ) → x < 2 ^ w → of_digits (digits w x) ≡ x
unfolding digits of_digits
number_digits zero x h = omega arith
number_digits (suc w) x h =
    by_halves_lem (λ (y : ℕ). digit w y * 2 ^ length (digits w y) + of_digits (digits w y) ≡ y) w
    (λ y k. rw (digit-first w y k, number_digits w y k) (omega arith))
    (λ y k.
    rw (digit-second w y k, length_digits w (2 ^ w + y), digits_alike w (2 ^ w + y) y (second_alike w y), number_digits w y k) (omega arith))
    x h

pub number_most : (l : List ℕ) → Bits l → of_digits l < 2 ^ length l
unfolding of_digits
number_most [] h = omega arith
number_most (zero ∷ l) h = omega (arith, number_most l (λ i. h (suc i)), two-pow-succ (length l))
number_most (suc zero ∷ l) h = omega (arith, number_most l (λ i. h (suc i)), two-pow-succ (length l))
number_most (suc (suc b) ∷ l) h = absurd (omega (arith, h 0))

pub digits_number : (l : List ℕ) → Bits l → digits (length l) (of_digits l) ≡ l
unfolding digits of_digits
digits_number [] h = refl
digits_number (zero ∷ l) h =
    let k = number_most l (λ i. h (suc i)) in
    let e : 0 * 2 ^ length l + of_digits l ≡ of_digits l = omega arith in
    rw e (ap₂ ◌∷◌ (digit-first (length l) (of_digits l) k) (digits_number l (λ i. h (suc i))))
digits_number (suc zero ∷ l) h =
    let k = number_most l (λ i. h (suc i)) in
    let w = length l in
    let e : 1 * 2 ^ w + of_digits l ≡ 2 ^ w + of_digits l = omega arith in
    rw e
    (ap₂ ◌∷◌ (digit-second w (of_digits l) k)
    (digits_alike w (2 ^ w + of_digits l) (of_digits l) (second_alike w (of_digits l)) ∙ digits_number l (λ i. h (suc i))))
digits_number (suc (suc b) ∷ l) h = absurd (omega (arith, h 0))

-- ---- the number digit by digit, from the front
twice-more : (n b p : ℕ) → (2 * n + b) * p ≡ n * (p + p) + b * p
twice-more n b p = omega (arith, add-mul (2 * n) b p, mul_assoc 2 n p, mul-add n p p)

number_cons : (b : ℕ) (l : List ℕ) → of_digits (b ∷ l) ≡ b * 2 ^ length l + of_digits l
unfolding of_digits
number_cons b l = refl

-- n and the rest of the digits, with one more of them taken to n
pub number-next : (n i : ℕ) (l : List ℕ) → i < length l
    → (2 * n + get_or l i 0) * 2 ^ (length l - suc i) + of_digits (drop (suc i) l) ≡ n * 2 ^ (length l - i) + of_digits (drop i l)
number-next n i l h =
    let k = length l - suc i in
    let e : length l - i ≡ suc k = omega arith in
    rw (e, drop-cons l i 0 h, number_cons, length-drop)
    (omega (arith, twice-more n (get_or l i 0) (2 ^ k), ap (λ (p : ℕ). n * p) (two-pow-succ k)))

-- all of them taken
pub number-end : (n i : ℕ) (l : List ℕ) → length l ≤ i → n * 2 ^ (length l - i) + of_digits (drop i l) ≡ n
unfolding of_digits
number-end n i l h =
    let e : length l - i ≡ 0 = omega arith in
    rw (e, drop_of_length-le l {i = i} h) (omega arith)
