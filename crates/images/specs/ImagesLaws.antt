-- Laws of images as numbers: the row is added bit by bit, and the images of the positions with bit q are those without it, with column q added.
use Rattle.std.specs.Prelude.{◌≡◌, refl, List, [], ℕ, suc, ◌+◌, ◌*◌, ◌^◌, ◌%◌, ◌/◌, ◌≤◌, ◌<◌, get_or}
use Rattle.std.proofs.Common.{ap, ap₂, sym, ◌∙◌, ⊎_elim, arith, mul-add, add-zero, mul-zero, mul_comm, mod-eq_of_lt, mul-le-mul_right, pow_pos, pow_mono}
use Rattle.std.proofs.Math.Nat.{two-pow-succ, zero-div}
use Rattle.std.specs.Int.Bits.{bit_xor}
use Rattle.std.proofs.lemmas.Nat.{xor_shr, xor_mod, xor_lt}
use Rattle.numbers.specs.Choice.{lt_or_le}
use Rattle.numbers.specs.Sums.{total}
use Rattle.numbers.specs.SumsLaws.{total_same, total-add, total-zero}
use Rattle.words.specs.Bits.{Bits, digit}
use Rattle.words.specs.BitLaws.{second_alike, digit-first, digit-second}
use Rattle.maps.specs.Maps.{number, image_bit, image}
use Rattle.maps.specs.NumberLaws.{by_bits, number-below, digit-number, number_same, number_digits, digits_determine}
use Rattle.maps.specs.ImageLaws.{image-below, digit-image}
use Rattle.maps.specs.CountLaws.{is}
use Rattle.maps.proofs.CountLaws.{is_same, is_other, picked}
use Rattle.maps.proofs.UndoLaws.{image_added}

-- ---- sums modulo 2, bit by bit
pub digit_xor : (p a b : ℕ) → digit p (bit_xor a b) ≡ (digit p a + digit p b) % 2
unfolding digit
digit_xor p a b =
    let x = a / 2 ^ p in
    let y = b / 2 ^ p in
    ap (λ (n : ℕ). n % 2) (xor_shr a b p) ∙ xor_mod x y 1
    ∙ by_bits (λ (u v : ℕ). bit_xor u v ≡ (u + v) % 2) refl refl refl refl (x % 2) (y % 2) (omega arith) (omega arith)

-- ---- a number built bit by bit
pub number_more : (g : ℕ → ℕ) (p : ℕ) → g p < 2 → p < 8 → number p g + g p * 2 ^ p % 256 ≡ number (suc p) g
unfolding number
number_more g p h k =
    let small : g p * 2 ^ p ≤ 2 ^ p = omega (arith, mul-le-mul_right (2 ^ p) h) in
    let within : g p * 2 ^ p < 256 = omega (arith, pow_mono {i = suc p} {j = 8} k, two-pow-succ p, pow_pos p) in
    ap (λ (n : ℕ). number p g + n) (mod-eq_of_lt within ∙ mul_comm (g p) (2 ^ p))

pub number_small : (g : ℕ → ℕ) (p : ℕ) → ((k : ℕ) → g k < 2) → p ≤ 8 → number p g < 256
number_small g p h k = omega (arith, number-below p g h, pow_mono {i = p} {j = 8} k)

-- ---- the row is added to every image
pub image-row : (m : ℕ) (A b : List ℕ) → Bits b → (j : ℕ) → bit_xor (image m A [] j) (number m (λ p. get_or b p 0)) ≡ image m A b j
image-row m A b bits j =
    let i = image m A [] j in
    let x = number m (λ p. get_or b p 0) in
    digits_determine m (bit_xor i x) (image m A b j) (xor_lt m i x (image-below m A [] j) (number-below m (λ p. get_or b p 0) bits)) (image-below m A b j)
    (λ p h.
    digit_xor p i x
    ∙ ap₂ (λ (u v : ℕ). (u + v) % 2) (digit-image m A [] j p h) (digit-number m (λ p. get_or b p 0) bits p h)
    ∙ sym (image_added m A b (λ q. digit q j) p) ∙ sym (digit-image m A b j p h))

-- ---- the image of position 0
digit-zero : (p : ℕ) → digit p 0 ≡ 0
unfolding digit
digit-zero p = ap (λ (n : ℕ). n % 2) (zero-div (2 ^ p))

pub image-zero : (m : ℕ) (A : List ℕ) → image m A [] 0 ≡ 0
unfolding image image_bit
image-zero m A =
    let none : (p : ℕ) → p < m → image_bit m A [] (λ q. digit q 0) p ≡ digit p 0 = λ p h.
    ap (λ (s : ℕ). (s + 0) % 2)
    (total_same (λ q. get_or A (p * m + q) 0 * digit q 0) (λ q. 0) m
    (λ q l. ap (λ (a : ℕ). get_or A (p * m + q) 0 * a) (digit-zero q) ∙ mul-zero (get_or A (p * m + q) 0))
    ∙ total-zero m) ∙ sym (digit-zero p) in
    number_same m (image_bit m A [] (λ q. digit q 0)) (λ p. digit p 0) none ∙ number_digits m 0 (pow_pos m)

-- ---- the images of positions with bit q
-- only bit q is added
digit-more : (q i k : ℕ) → i < 2 ^ q → digit k (2 ^ q + i) ≡ digit k i + is k q
digit-more q i k h =
    ⊎_elim
    (λ l. second_alike q i k l ∙ sym (add-zero (digit k i)) ∙ ap (λ (n : ℕ). digit k i + n) (sym (is_other k q (λ e. omega arith))))
    (λ (l : q ≤ k).
    ⊎_elim
    (λ (o : q < k).
    let more : 2 ^ suc q ≤ 2 ^ k = pow_mono o in
    let above : digit k (2 ^ q + i) ≡ 0 = digit-first k (2 ^ q + i) (omega (arith, more, two-pow-succ q)) in
    let below : digit k i ≡ 0 = digit-first k i (omega (arith, more, two-pow-succ q)) in
    omega (arith, above, below, is_other k q (λ e. omega arith)))
    (λ (o : k ≤ q).
    let e : k ≡ q = omega arith in
    rw e (omega (arith, digit-second q i h, digit-first q i h, is_same q q refl)))
    (lt_or_le q k))
    (lt_or_le k q)

pub image_column : (m : ℕ) (A : List ℕ) → Bits A → (q i : ℕ) → q < m → i < 2 ^ q
    → bit_xor (image m A [] i) (number m (λ p. get_or A (p * m + q) 0)) ≡ image m A [] (2 ^ q + i)
unfolding image_bit
image_column m A bits q i l h =
    let y = image m A [] i in
    let column : ℕ → ℕ = λ p. get_or A (p * m + q) 0 in
    let x = number m column in
    digits_determine m (bit_xor y x) (image m A [] (2 ^ q + i)) (xor_lt m y x (image-below m A [] i) (number-below m column (λ p. bits (p * m + q))))
    (image-below m A [] (2 ^ q + i))
    (λ p k.
    let a : ℕ → ℕ = λ n. get_or A (p * m + n) 0 in
    let sums : total (λ n. a n * digit n (2 ^ q + i)) m ≡ total (λ n. a n * digit n i) m + a q =
    total_same (λ n. a n * digit n (2 ^ q + i)) (λ n. a n * digit n i + is n q * a n) m
    (λ n o. ap (λ (d : ℕ). a n * d) (digit-more q i n h) ∙ mul-add (a n) (digit n i) (is n q) ∙ ap (λ (d : ℕ). a n * digit n i + d) (mul_comm (a n) (is n q)))
    ∙ total-add (λ n. a n * digit n i) (λ n. is n q * a n) m
    ∙ ap (λ (d : ℕ). total (λ n. a n * digit n i) m + d) (picked a q m l) in
    digit_xor p y x
    ∙ ap₂ (λ (u v : ℕ). (u + v) % 2) (digit-image m A [] i p k) (digit-number m column (λ p. bits (p * m + q)) p k)
    ∙ rw sums (omega arith)
    ∙ sym (digit-image m A [] (2 ^ q + i) p k))
