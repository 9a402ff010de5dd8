-- The words of place s and bit e are the words of RM(1,m), each once: the information bits are the digits of s, the highest first, and then
-- e plus the number of ones of s, modulo 2; conversely, e is the sum of all information bits modulo 2.
use Rattle.std.specs.Prelude.{◌≡◌, refl, List, [], ◌∷◌, ◌++◌, ℕ, zero, suc, ◌+◌, ◌-◌, ◌*◌, ◌^◌, ◌%◌, ◌<◌, length, get_or, replicate}
use Rattle.std.proofs.Common.{ap, ap₂, sym, ◌∙◌, suc-ne-zero, length-append, take_at, drop_at}
use native.Mathlib.Omega.{arith}
use Rattle.std.proofs.Math.Nat.{suc_inj, two-pow-succ}
use Rattle.std.proofs.Math.ListN.{get_or-append}
use Rattle.std.proofs.lemmas.List.{length-replicate, replicate-append-replicate, get_or_at}
use Rattle.numbers.specs.Sums.{sum, tabulate}
use Rattle.numbers.specs.SumsLaws.{sum-append, sum_zeros, tabulate_same}
use Rattle.words.specs.Bits.{Bits, xors, digit, digits, ones}
use Rattle.words.specs.Word.{transform}
use Rattle.words.specs.Kinds.{kinds, fill, encoded, InformationBits, Word}
use Rattle.words.specs.BitLaws.{digit-first, digit-second, second_alike, by_halves_lem, ones-first, ones-second}
use Rattle.words.specs.BitLaws.{digits_alike, length_digits, bits_digits, digits_at}
use Rattle.words.proofs.KindLaws.{length-kinds, bits_kinds, kinds-one, kinds-zero, kinds-suc, sum-kinds, dimension-zero, dimension-one, dimension-suc}
use Rattle.words.specs.TransformLaws.{xors_comm, xors-zeros, bits_append, bits_zeros, transform-zeros}
use Rattle.words.specs.Inverse.{taken, taken_back}
use Rattle.words.proofs.InverseLaws.{word_taken}
use Rattle.words.proofs.FillLaws.{length-fill, fill-zeros}
use Rattle.hadamard.specs.Hadamard.{common, first_order, bits_of, place_named}
use Rattle.hadamard.proofs.FirstOrderLaws.{word_first, word-second}

-- ---- the bits by halves
module _ (m s e : ℕ) (h : s < 2 ^ m) where
  pub bits_first : bits_of (suc m) s e ≡ 0 ∷ bits_of m s e
  unfolding bits_of digits
  bits_first = rw (digit-first m s h, ones-first m s h)

  pub bits_second : e < 2 → bits_of (suc m) (2 ^ m + s) e ≡ 1 ∷ bits_of m s (1 - e)
  unfolding bits_of digits
  bits_second k =
      let last : (suc (ones m s) + e) % 2 ≡ (ones m s + (1 - e)) % 2 = omega arith in
      rw (digit-second m s h, ones-second m s h, digits_alike m (2 ^ m + s) s (second_alike m s), last)

-- ---- there and back
sum-digits : (m s : ℕ) → sum (digits m s) ≡ ones m s
unfolding sum digits ones
sum-digits zero s = refl
sum-digits (suc m) s = omega (arith, sum-digits m s)

-- the bits one by one
pub bits_of_at : (m s e i : ℕ) → i < m → get_or (bits_of m s e) i 0 ≡ digit (m - suc i) s
unfolding bits_of
bits_of_at m s e i h = get_or-append (digits m s) ((ones m s + e) % 2 ∷ []) 0 i (omega (arith, length_digits m s)) ∙ digits_at m s i h

pub bits_of-last : (m s e : ℕ) → get_or (bits_of m s e) m 0 ≡ (ones m s + e) % 2
unfolding bits_of
bits_of-last m s e = get_or_at (digits m s) ((ones m s + e) % 2) [] 0 m (length_digits m s)

-- m + 1 information bits
pub sum-first_order : (m : ℕ) → sum (kinds 1 m) ≡ suc m
sum-first_order zero = sum-kinds 1 0 ∙ dimension-one 1
sum-first_order (suc m) =
    sum-kinds 1 (suc m) ∙ omega (arith, dimension-suc 0 m, dimension-zero m, sum-kinds 1 m, sum-first_order m)

pub bits_of_are : (m s e : ℕ) → InformationBits (kinds 1 m) (bits_of m s e)
unfolding bits_of
bits_of_are m s e = (
  length-append (digits m s) ((ones m s + e) % 2 ∷ []) ∙ omega (arith, length_digits m s, sum-first_order m),
  bits_append (digits m s) ((ones m s + e) % 2 ∷ []) (bits_digits m s)
      (λ i. elim i as (λ j. get_or ((ones m s + e) % 2 ∷ []) j 0 < 2) [ zero ↦ omega arith | suc i ↦ omega arith ]),
)

pub sign-bits_of : (m s e : ℕ) → e < 2 → sum (bits_of m s e) % 2 ≡ e
unfolding bits_of sum
sign-bits_of m s e h = omega (arith, sum-append (digits m s) ((ones m s + e) % 2 ∷ []), sum-digits m s)

pub place_bits_of : (m s e : ℕ) → s < 2 ^ m → e < 2 → place_named m (bits_of m s e) ≡ s
unfolding place_named
place_bits_of zero s e h g = omega arith
place_bits_of (suc m) s e h g =
    by_halves_lem (λ (t : ℕ). place_named (suc m) (bits_of (suc m) t e) ≡ t) m
    (λ t i. rw (bits_first m t e i) (omega (arith, place_bits_of m t e i g)))
    (λ t i. rw (bits_second m t e i g) (omega (arith, place_bits_of m t (1 - e) i (omega arith))))
    s h

pub place_within : (m : ℕ) (b : List ℕ) → Bits b → place_named m b < 2 ^ m
unfolding place_named
place_within zero b h = omega arith
place_within (suc m) [] h = omega (arith, place_within m [] h, two-pow-succ m)
place_within (suc m) (zero ∷ b) h = omega (arith, place_within m b (λ i. h (suc i)), two-pow-succ m)
place_within (suc m) (suc zero ∷ b) h = omega (arith, place_within m b (λ i. h (suc i)), two-pow-succ m)
place_within (suc m) (suc (suc a) ∷ b) h = absurd (omega (arith, h 0))

place_last : (a : ℕ) → a < 2 → bits_of 0 0 ((a + 0) % 2) ≡ a ∷ []
unfolding bits_of digits ones
place_last zero h = refl
place_last (suc zero) h = refl
place_last (suc (suc a)) h = absurd (omega arith)

pub bits_of_place : (m : ℕ) (b : List ℕ) → length b ≡ suc m → Bits b → bits_of m (place_named m b) (sum b % 2) ≡ b
unfolding place_named sum
bits_of_place m [] e h = absurd (suc-ne-zero m (sym e))
bits_of_place zero (a ∷ []) e h = place_last a (h 0)
bits_of_place zero (a ∷ c ∷ b) e h = absurd (omega arith)
bits_of_place (suc m) (zero ∷ b) e h =
    let i = place_within m b (λ j. h (suc j)) in
    let z : 0 * 2 ^ m + place_named m b ≡ place_named m b = omega arith in
    let n : (0 + sum b) % 2 ≡ sum b % 2 = omega arith in
    rw (z, n, bits_first m (place_named m b) (sum b % 2) i) (ap (λ (l : List ℕ). 0 ∷ l) (bits_of_place m b (suc_inj e) (λ j. h (suc j))))
bits_of_place (suc m) (suc zero ∷ b) e h =
    let i = place_within m b (λ j. h (suc j)) in
    let z : 1 * 2 ^ m + place_named m b ≡ 2 ^ m + place_named m b = omega arith in
    let n : 1 - (1 + sum b) % 2 ≡ sum b % 2 = omega arith in
    rw (z, bits_second m (place_named m b) ((1 + sum b) % 2) i (omega arith), n) (ap (λ (l : List ℕ). 1 ∷ l) (bits_of_place m b (suc_inj e) (λ j. h (suc j))))
bits_of_place (suc m) (suc (suc a) ∷ b) e h = absurd (omega (arith, h 0))

-- ---- the word of these bits
fill-append : (ks rest a b : List ℕ) → Bits ks → length a ≡ sum ks → fill (ks ++ rest) (a ++ b) ≡ fill ks a ++ fill rest b
unfolding sum
fill-append [] rest [] b h e = refl
fill-append [] rest (x ∷ a) b h e = absurd (suc-ne-zero (length a) e)
fill-append (zero ∷ ks) rest a b h e = ap (λ (l : List ℕ). 0 ∷ l) (fill-append ks rest a b (λ i. h (suc i)) (omega arith))
fill-append (suc zero ∷ ks) rest [] b h e = absurd (omega arith)
fill-append (suc zero ∷ ks) rest (x ∷ a) b h e = ap (λ (l : List ℕ). x ∷ l) (fill-append ks rest a b (λ i. h (suc i)) (omega arith))
fill-append (suc (suc k) ∷ ks) rest a b h e = absurd (omega (arith, h 0))

encoded_halves : (m : ℕ) (ks rest a b : List ℕ) → length ks ≡ 2 ^ m → Bits ks → length a ≡ sum ks
    → encoded (suc m) (ks ++ rest) (a ++ b) ≡ xors (encoded m ks a) (encoded m rest b) ++ encoded m rest b
unfolding transform
encoded_halves m ks rest a b e h l =
    let long : length (fill ks a) ≡ 2 ^ m = length-fill ks a ∙ e in
    rw (fill-append ks rest a b h l, take_at (fill ks a) (fill rest b) (2 ^ m) long, drop_at (fill ks a) (fill rest b) (2 ^ m) long)

bits_repeated : (n a : ℕ) → a < 2 → Bits (replicate n a)
bits_repeated zero a h i = omega arith
bits_repeated (suc n) a h zero = h
bits_repeated (suc n) a h (suc i) = bits_repeated n a h i

-- one information bit at the last index is repeated
encoded_repeated : (m a : ℕ) → a < 2 → encoded m (kinds 0 m) (a ∷ []) ≡ replicate (2 ^ m) a
unfolding transform
encoded_repeated zero a h = rw (kinds-one 0) refl
encoded_repeated (suc m) a h =
    let n = 2 ^ m in
    let zeros : List ℕ = replicate n 0 in
    let w : List ℕ = replicate n a in
    let long : length zeros ≡ n = length-replicate n 0 in
    let none : encoded m zeros [] ≡ zeros = ap (transform m) (fill-zeros zeros 0 ∙ ap (λ (k : ℕ). replicate k 0) long) ∙ transform-zeros m in
    ap (λ (ks : List ℕ). encoded (suc m) ks (a ∷ [])) (kinds-zero m)
    ∙ encoded_halves m zeros (kinds 0 m) [] (a ∷ []) long (bits_zeros n) (sym (sum_zeros n))
    ∙ ap₂ (λ (x y : List ℕ). xors x y ++ y) none (encoded_repeated m a h)
    ∙ ap (λ (x : List ℕ). x ++ w) (xors_comm zeros w ∙ xors-zeros n w (length-replicate n a) (bits_repeated n a h))
    ∙ replicate-append-replicate n n a ∙ ap (λ (k : ℕ). replicate k a) (sym (two-pow-succ m))

-- the first information bit changes all bits of the first half
encoded-more : (m a : ℕ) (b : List ℕ) → a < 2
    → encoded (suc m) (kinds 1 (suc m)) (a ∷ b) ≡ xors (replicate (2 ^ m) a) (encoded m (kinds 1 m) b) ++ encoded m (kinds 1 m) b
encoded-more m a b h =
    let x = encoded m (kinds 1 m) b in
    ap (λ (ks : List ℕ). encoded (suc m) ks (a ∷ b)) (kinds-suc 0 m)
    ∙ encoded_halves m (kinds 0 m) (kinds 1 m) (a ∷ []) b (length-kinds 0 m) (bits_kinds 0 m) (sym (sum-kinds 0 m ∙ dimension-zero m))
    ∙ ap (λ (y : List ℕ). xors y x ++ x) (encoded_repeated m a h)

xors_repeated : (n a : ℕ) (f : ℕ → ℕ) → xors (replicate n a) (tabulate f n) ≡ tabulate (λ i. (a + f i) % 2) n
unfolding tabulate
xors_repeated zero a f = refl
xors_repeated (suc n) a f = ap (λ (l : List ℕ). (a + f 0) % 2 ∷ l) (xors_repeated n a (λ i. f (suc i)))

changed-word : (m s a e f : ℕ) → ((c : ℕ) → (a + (c + e) % 2) % 2 ≡ (c + f) % 2) → xors (replicate (2 ^ m) a) (first_order m s e) ≡ first_order m s f
unfolding first_order
changed-word m s a e f h =
    xors_repeated (2 ^ m) a (λ j. (common m s j + e) % 2)
    ∙ tabulate_same (λ j. (a + (common m s j + e) % 2) % 2) (λ j. (common m s j + f) % 2) (2 ^ m) (λ j l. h (common m s j))

encoded-one : (s e : ℕ) → encoded 0 (kinds 1 0) (bits_of 0 s e) ≡ first_order 0 s e
unfolding transform bits_of digits ones first_order common tabulate
encoded-one s e = rw (kinds-one 1) refl

pub encoded-bits_of : (m s e : ℕ) → s < 2 ^ m → e < 2 → encoded m (kinds 1 m) (bits_of m s e) ≡ first_order m s e
encoded-bits_of zero s e h g = encoded-one s e
encoded-bits_of (suc m) s e h g =
    by_halves_lem (λ (t : ℕ). encoded (suc m) (kinds 1 (suc m)) (bits_of (suc m) t e) ≡ first_order (suc m) t e) m
    (λ t i.
    let w = first_order m t e in
    ap (encoded (suc m) (kinds 1 (suc m))) (bits_first m t e i) ∙ encoded-more m 0 (bits_of m t e) (omega arith)
    ∙ ap (λ (x : List ℕ). xors (replicate (2 ^ m) 0) x ++ x) (encoded-bits_of m t e i g)
    ∙ ap (λ (x : List ℕ). x ++ w) (changed-word m t 0 e e (λ c. omega arith))
    ∙ sym (word_first m t e i))
    (λ t i.
    let w = first_order m t (1 - e) in
    ap (encoded (suc m) (kinds 1 (suc m))) (bits_second m t e i g) ∙ encoded-more m 1 (bits_of m t (1 - e)) (omega arith)
    ∙ ap (λ (x : List ℕ). xors (replicate (2 ^ m) 1) x ++ x) (encoded-bits_of m t (1 - e) i (omega arith))
    ∙ ap (λ (x : List ℕ). x ++ w) (changed-word m t 1 (1 - e) e (λ c. omega arith))
    ∙ sym (word-second m t e i g))
    s h

-- so these are the words of RM(1,m)
pub place_word : (m s e : ℕ) → s < 2 ^ m → e < 2 → Word m (kinds 1 m) (first_order m s e)
place_word m s e h g = record {
  bits = bits_of m s e;
  long = (bits_of_are m s e).0;
  are_bits = (bits_of_are m s e).1;
  gives = encoded-bits_of m s e h g;
}

pub word_place : (m : ℕ) (x : List ℕ) (w : Word m (kinds 1 m) x) → first_order m (place_named m w.bits) (sum w.bits % 2) ≡ x
word_place m x w =
    let b = w.bits in
    sym (encoded-bits_of m (place_named m b) (sum b % 2) (place_within m b w.are_bits) (omega arith))
    ∙ ap (encoded m (kinds 1 m)) (bits_of_place m b (w.long ∙ sum-first_order m) w.are_bits) ∙ w.gives

-- each once
pub word_once : (m s e s' e' : ℕ) → s < 2 ^ m → e < 2 → s' < 2 ^ m → e' < 2 → first_order m s e ≡ first_order m s' e' → (s ≡ s') × (e ≡ e')
unfolding place_word
word_once m s e s' e' h g h' g' same =
    let ks = kinds 1 m in
    let back : (t f : ℕ) → t < 2 ^ m → f < 2 → taken_back m ks (first_order m t f) ≡ taken (bits_of m t f) =
    λ t f i j. word_taken m ks (first_order m t f) (length-kinds 1 m) (bits_kinds 1 m) (place_word m t f i j) in
    let bits : bits_of m s e ≡ bits_of m s' e' = cc (back s e h g, back s' e' h' g', same) in (
      sym (place_bits_of m s e h g) ∙ ap (place_named m) bits ∙ place_bits_of m s' e' h' g',
      sym (sign-bits_of m s e g) ∙ ap (λ (b : List ℕ). sum b % 2) bits ∙ sign-bits_of m s' e' g',
    )
