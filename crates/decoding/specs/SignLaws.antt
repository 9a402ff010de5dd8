-- Laws of the signs of a row: the two steps on entries of at least some size, and the quick word of a row in which every index carries information
-- and no reading is 0.
use Rattle.std.specs.Prelude.{◌≡◌, refl, List, [], ◌∷◌, ◌++◌, map, ℕ, zero, suc, ◌+◌, ◌^◌, ◌%◌, ◌≤◌, ◌<◌, min, ℤ, pos, negsuc, nat_abs, neg_ℤ, length, take}
use Rattle.std.specs.Prelude.{drop}
use Rattle.std.proofs.Common.{ap, ap₂, sym, ◌∙◌, arith, suc-ne-zero, take-append-drop}
use Rattle.std.proofs.lemmas.List.{map-append, length-map}
use Rattle.std.proofs.Math.Nat.{suc_inj}
use Rattle.numbers.specs.Halves.{length-first, length-second}
use Rattle.words.specs.Bits.{Bits, xors}
use Rattle.words.specs.TransformLaws.{length-xors, xors-twice}
use Rattle.decoding.specs.Quick.{lower, upper, lowers, uppers, hard, quick_word}
use Rattle.decoding.specs.StepLaws.{size-lower, length-lowers, length-uppers}

-- ---- no entry of a row has a size below c
abbrev pub AtLeast : ℕ → List ℤ → Type 0
AtLeast c [] = Unit {0}
AtLeast c (x ∷ l) = (c ≤ nat_abs x) × AtLeast c l

pub at_least_take : (c h : ℕ) (l : List ℤ) → AtLeast c l → AtLeast c (take h l)
at_least_take c zero l a = tt
at_least_take c (suc h) [] a = tt
at_least_take c (suc h) (x ∷ l) a = (a.0, at_least_take c h l a.1)

pub at_least_drop : (c h : ℕ) (l : List ℤ) → AtLeast c l → AtLeast c (drop h l)
at_least_drop c zero l a = a
at_least_drop c (suc h) [] a = tt
at_least_drop c (suc h) (x ∷ l) a = at_least_drop c h l a.1

pub at_least_append : (c : ℕ) (k l : List ℤ) → AtLeast c k → AtLeast c l → AtLeast c (k ++ l)
at_least_append c [] l a b = b
at_least_append c (x ∷ k) l a b = (a.0, at_least_append c k l a.1 b)

-- ---- the two steps on a pair that speaks: the lower entry has the lesser size and the sum of the signs, the upper one under that both sizes and
-- the second's sign
record Steps (c : ℕ) (x y : ℤ) : Type 0 where
  lower-size : c ≤ nat_abs (lower x y)
  lower-sign : hard (lower x y) ≡ (hard x + hard y) % 2
  upper-size : nat_abs (upper x y ((hard x + hard y) % 2)) ≡ nat_abs x + nat_abs y
  upper_sign : hard (upper x y ((hard x + hard y) % 2)) ≡ hard y

below : (n : ℕ) → 0 < n → hard (neg_ℤ (pos n)) ≡ 1
below zero h = absurd (omega arith)
below (suc n) h = refl

steps : (c : ℕ) (x y : ℤ) → 0 < c → c ≤ nat_abs x → c ≤ nat_abs y → Steps c x y
steps c (pos zero) y o h k = absurd (omega arith)
steps c (pos (suc x)) (pos zero) o h k = absurd (omega arith)
steps c (pos (suc x)) (pos (suc y)) o h k =
    record { lower-size = omega arith; lower-sign = refl; upper-size = omega arith; upper_sign = refl }
steps c (pos (suc x)) (negsuc y) o h k =
    record {
      lower-size = omega (arith, size-lower (pos (suc x)) (negsuc y));
      lower-sign = below (min (suc x) (suc y)) (omega arith);
      upper-size = omega arith;
      upper_sign = refl;
    }
steps c (negsuc x) (pos zero) o h k = absurd (omega arith)
steps c (negsuc x) (pos (suc y)) o h k =
    record {
      lower-size = omega (arith, size-lower (negsuc x) (pos (suc y)));
      lower-sign = below (min (suc x) (suc y)) (omega arith);
      upper-size = omega arith;
      upper_sign = refl;
    }
steps c (negsuc x) (negsuc y) o h k = record { lower-size = omega arith; lower-sign = refl; upper-size = omega arith; upper_sign = refl }

-- and on rows
pub record RowSteps (c : ℕ) (k l : List ℤ) : Type 0 where
  pub lowers-size : AtLeast c (lowers k l)
  pub lowers_signs : map hard (lowers k l) ≡ xors (map hard k) (map hard l)
  pub uppers-size : AtLeast c (uppers k l (xors (map hard k) (map hard l)))
  pub uppers_signs : map hard (uppers k l (xors (map hard k) (map hard l))) ≡ map hard l

pub row_steps : (c : ℕ) (k l : List ℤ) → 0 < c → length k ≡ length l → AtLeast c k → AtLeast c l → RowSteps c k l
row_steps c [] [] o e s t = record { lowers-size = tt; lowers_signs = refl; uppers-size = tt; uppers_signs = refl }
row_steps c [] (y ∷ l) o e s t = absurd (suc-ne-zero (length l) (sym e))
row_steps c (x ∷ k) [] o e s t = absurd (suc-ne-zero (length k) e)
row_steps c (x ∷ k) (y ∷ l) o e s t =
    let i = steps c x y o s.0 t.0 in
    let r = row_steps c k l o (suc_inj e) s.1 t.1 in
    record {
      lowers-size = (i.lower-size, r.lowers-size);
      lowers_signs = ap₂ ◌∷◌ i.lower-sign r.lowers_signs;
      uppers-size = (omega (arith, i.upper-size, s.0), r.uppers-size);
      uppers_signs = ap₂ ◌∷◌ i.upper_sign r.uppers_signs;
    }

pub bits_signs : (l : List ℤ) → Bits (map hard l)
bits_signs [] i = omega arith
bits_signs (pos n ∷ l) zero = omega arith
bits_signs (negsuc n ∷ l) zero = omega arith
bits_signs (x ∷ l) (suc i) = bits_signs l i

-- ---- every index carries information
abbrev pub AllCarry : List ℕ → Type 0
AllCarry [] = Unit {0}
AllCarry (k ∷ ks) = (0 < k) × AllCarry ks

carry_take : (h : ℕ) (ks : List ℕ) → AllCarry ks → AllCarry (take h ks)
carry_take zero ks c = tt
carry_take (suc h) [] c = tt
carry_take (suc h) (k ∷ ks) c = (c.0, carry_take h ks c.1)

carry_drop : (h : ℕ) (ks : List ℕ) → AllCarry ks → AllCarry (drop h ks)
carry_drop zero ks c = c
carry_drop (suc h) [] c = tt
carry_drop (suc h) (k ∷ ks) c = carry_drop h ks c.1

-- the quick word is the signs, where no entry is 0
pub signs_quick : (m : ℕ) (ks : List ℕ) (l : List ℤ) → length ks ≡ 2 ^ m → length l ≡ 2 ^ m → AllCarry ks → AtLeast 1 l → quick_word m ks l ≡ map hard l
unfolding quick_word
signs_quick zero [] l e f c s = absurd (omega arith)
signs_quick zero (k ∷ ks) [] e f c s = absurd (omega arith)
signs_quick zero (zero ∷ ks) (x ∷ l) e f c s = absurd (omega arith)
signs_quick zero (suc k ∷ ks) (x ∷ []) e f c s = refl
signs_quick zero (suc k ∷ ks) (x ∷ y ∷ l) e f c s = absurd (omega arith)
signs_quick (suc m) ks l e f c s =
    let h = 2 ^ m in
    let x = take h l in
    let y = drop h l in
    let p : List ℕ = map hard x in
    let q : List ℕ = map hard y in
    let even : length x ≡ length y = length-first m l f ∙ sym (length-second m l f) in
    let r = row_steps 1 x y (omega arith) even (at_least_take 1 h l s) (at_least_drop 1 h l s) in
    let a : quick_word m (take h ks) (lowers x y) ≡ xors p q =
    signs_quick m (take h ks) (lowers x y) (length-first m ks e) (length-lowers x y even ∙ length-first m l f) (carry_take h ks c) r.lowers-size
    ∙ r.lowers_signs in
    let long : length x ≡ length (xors p q) = sym (length-xors p q (length-map x hard ∙ even ∙ sym (length-map y hard)) ∙ length-map x hard) in
    let b : quick_word m (drop h ks) (uppers x y (xors p q)) ≡ q =
    signs_quick m (drop h ks) (uppers x y (xors p q)) (length-second m ks e) (length-uppers x y (xors p q) even long ∙ length-first m l f)
    (carry_drop h ks c) r.uppers-size ∙ r.uppers_signs in
    let b' : quick_word m (drop h ks) (uppers x y (quick_word m (take h ks) (lowers x y))) ≡ q =
    ap (λ (w : List ℕ). quick_word m (drop h ks) (uppers x y w)) a ∙ b in
    ap₂ (λ (w v : List ℕ). xors w v ++ v) a b'
    ∙ ap (λ (w : List ℕ). w ++ q) (xors-twice p q (length-map x hard ∙ even ∙ sym (length-map y hard)) (bits_signs x))
    ∙ sym (map-append hard x y)
    ∙ ap (map hard) (take-append-drop h l)
