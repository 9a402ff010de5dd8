-- A test for whole numbers in float arithmetic: between 2 ^ 23 and 2 ^ 24 every float is whole, so that adding 2 ^ 23 + 2 ^ 22 and subtracting
-- it again gives a whole number; it is the float itself exactly if that is whole.
use Rattle.std.specs.Prelude.{◌≡◌, refl, Bool, ℤ, pos, negsuc, neg_ℤ, nat_abs, ◌+ℤ◌, ◌-ℤ◌, leb, Float}
use Rattle.std.proofs.Common.{ap, sym, ◌∙◌, subst, true≢false, ⊎_elim, le_trans, lt_irrefl, lt_of_lt_of_le, lt_of_le_of_lt, le_antisymm, mul_right_comm}
use Rattle.std.proofs.Common.{mul-one, mul-le-mul_right, mul-lt-mul_of_pos_right, le-div_iff_mul-le, div-lt_iff_lt-mul, arith, pow_pos, pow_mono, lt-ltb}
use Rattle.std.proofs.Common.{le-leb, ltb-false}
use Rattle.std.proofs.Math.Bool.{true, false}
use Prim.Native.Nat.{ℕ, ◌+◌, ◌-◌, ◌*◌, ◌/◌, ◌%◌, ◌^◌, ◌≤◌, ◌<◌, compare}
use Rattle.std.proofs.Math.Nat.{eq_of_mul-eq-mul_right, div-div-eq-div-mul}
use Rattle.std.proofs.Math.Pow.{pow-lt}
use Rattle.std.proofs.lemmas.Bool.{lt-leb}
use Rattle.std.specs.Float.Ieee as Ieee
use Rattle.std.specs.Float.Ieee.{nan, round, size}
use Rattle.std.specs.Float.{inf, fin, binary32}
use Rattle.std.specs.Float.Ieee.Digits.{size-lt, size-le}
use Rattle.std.specs.Float.Ieee.Fits.{down_pos, kept-lt, nearest-le}
use Rattle.std.specs.Float.Ieee.Order.{drop, kept}
use Rattle.std.specs.Float.Ieee.Scale.{grid, round_val}
use Rattle.std.specs.Float.Ieee.Exact.{HasValue}
use Rattle.std.specs.Int.Signed.{lt_z}
use Rattle.numbers.specs.PartsLaws.{parts, sum_parts, negated, by_parts, less_parts, not_less_parts}
use Rattle.numbers.specs.Choice.{lt_or_le}
use Rattle.float_numbers.specs.Whole.{Represents, whole_of}
use Rattle.float_numbers.proofs.WholeLaws.{represents_small, whole_of-is, neg_represents, add_represents}
use Rattle.float_numbers.proofs.SumLaws.{sub_represents}
use Rattle.float_numbers.proofs.WholeLaws.{lt_represents, eq_represents, represents_eq, value_equals, add_fin}
use Rattle.float_numbers.specs.NearLaws.{Near, shift}

-- ---- a number from 2 ^ 172 on and below 2 ^ 173 has 173 digits
size_is : (n : ℕ) → 2 ^ 172 ≤ n → n < 2 ^ 173 → size n ≡ 173
size_is n lo hi =
    le_antisymm (size-le n 173 hi)
    (⊎_elim (λ h. absurd (no h)) (λ h. h) (lt_or_le (size n) 173))
  where
    no : size n < 173 → ⊥
    no h = let z : 2 ^ size n ≤ 2 ^ 172 = pow_mono {i = size n} {j = 172} (omega arith) in lt_irrefl n (lt_of_lt_of_le (size-lt n) (le_trans z lo))

module _ (n d : ℕ) (some : 0 < d) (low : 2 ^ 23 * d ≤ n) (high : n < 2 ^ 24 * d) where
  abbrev units : ℕ
  units = n * 2 ^ 149 / d

  digits : size units ≡ 173
  digits = size_is units
      ((le-div_iff_mul-le some).1 (subst (λ (x : ℕ). x ≤ n * 2 ^ 149) (mul_right_comm (2 ^ 23) d (2 ^ 149)) (mul-le-mul_right (2 ^ 149) low)))
      ((div-lt_iff_lt-mul some).1 (subst (λ (x : ℕ). n * 2 ^ 149 < x) (mul_right_comm (2 ^ 24) d (2 ^ 149)) (mul-lt-mul_of_pos_right high (pow_pos 149))))

  dropped : drop 24 (n * 2 ^ 149) d ≡ 149
  dropped = ap (λ (k : ℕ). k - 24) digits

  kept_small : kept 24 (n * 2 ^ 149) d ≤ 2 ^ 24
  kept_small =
      let k = drop 24 (n * 2 ^ 149) d in
      let u = d * 2 ^ k in
      le_trans (nearest-le (n * 2 ^ 149 / u) (compare (n * 2 ^ 149 % u * 2) u))
      (subst (λ (x : ℕ). x < 2 ^ 24) (div-div-eq-div-mul (n * 2 ^ 149) d (2 ^ k)) (kept-lt 24 units))

  grid_is : grid binary32 n d ≡ kept 24 (n * 2 ^ 149) d * 2 ^ 149
  grid_is = ap (λ (k : ℕ). kept 24 (n * 2 ^ 149) d * 2 ^ k) dropped

  near_value : HasValue (round binary32 false n d) false (kept 24 (n * 2 ^ 149) d * 2 ^ 149) (2 ^ 149)
  near_value = subst (λ (x : ℕ). HasValue (round binary32 false n d) false x (2 ^ 149)) grid_is
      (round_val binary32 n d (rw grid_is (lt_of_le_of_lt (mul-le-mul_right (2 ^ 149) kept_small) (pow-lt {i = 173} {j = 277} (omega arith)))))

-- a whole number with denominator 1
over-one : (x : Float) (q l : ℕ) → 0 < l → HasValue x false (q * l) l → HasValue x false q 1
over-one nan q l h v = v
over-one (inf t) q l h v = v
over-one (fin t m e) q l h v = (
  v.0,
  eq_of_mul-eq-mul_right l h (m * Ieee.up e * 1) (q * Ieee.down e)
      (ap (λ (x : ℕ). x * l) (mul-one (m * Ieee.up e)) ∙ v.1 ∙ mul_right_comm q l (Ieee.down e)),
)

near : (n d : ℕ) → 0 < d → 2 ^ 23 * d ≤ n → n < 2 ^ 24 * d → Near (round binary32 false n d)
near n d some low high =
    let q = kept 24 (n * 2 ^ 149) d in
    let x = round binary32 false n d in
    record {
      number = q;
      small = kept_small n d some low high;
      represents = record { equals = value_equals x false q (over-one x q (2 ^ 149) (pow_pos 149) (near_value n d some low high)) };
    }

shift-sum : (s : Bool) (a d : ℕ) → 0 < d → a < 2 ^ 22 * d → Near (Ieee.sum binary32 s (a * 1) false (12582912 * d) (d * 1))
unfolding Ieee.sum
shift-sum false a d some h = near (a * 1 + 12582912 * d) (d * 1) (omega arith) (omega arith) (omega arith)
shift-sum true a d some h =
    rw (lt-ltb (a * 1) (12582912 * d) (omega arith)) (near (12582912 * d - a * 1) (d * 1) (omega arith) (omega arith) (omega arith))

shift_fin : (s : Bool) (m : ℕ) (e : ℤ) → m * Ieee.up e < 2 ^ 22 * Ieee.down e → Near (Ieee.add binary32 (fin s m e) shift)
shift_fin s m e h = subst Near (sym (add_fin s false m 3 e (pos 22))) (shift-sum s (m * Ieee.up e) (Ieee.down e) (down_pos e) h)

shift_represents : Represents shift (pos 12582912)
shift_represents = record { equals = (refl, refl) }

-- ---- the test, for a largest size
no_nan : (y : Float) → Ieee.eq y nan ≡ false
unfolding Ieee.eq
no_nan nan = refl
no_nan (inf s) = refl
no_nan (fin s m e) = refl

is_false : (b : Bool) → (b ≡ true → ⊥) → b ≡ false
is_false true h = absurd (h refl)
is_false false h = refl

module _ (largest : ℕ) (most : largest < 2 ^ 22) where
  abbrev pub end : Float
  end = fin false largest (pos 0)

  -- the largest number and its negative, as floats
  end_represents : Represents end (pos largest)
  end_represents = record { equals = (refl, refl) }

  low_represents : Represents (Ieee.neg end) (neg_ℤ (pos largest))
  low_represents = neg_represents end_represents

  -- a number between the two ends
  between : (z : ℤ) → lt_z z (neg_ℤ (pos largest)) ≡ false → lt_z (pos largest) z ≡ false → nat_abs z ≤ largest
  between z h k =
      omega (arith, parts z, negated (pos largest), not_less_parts z (neg_ℤ (pos largest)) h, not_less_parts (pos largest) z k)

  -- a float between the two ends
  fin_between : (s : Bool) (m : ℕ) (e : ℤ) → Ieee.lt (fin s m e) (Ieee.neg end) ≡ false → Ieee.lt end (fin s m e) ≡ false
      → m * Ieee.up e ≤ largest * Ieee.down e
  unfolding Ieee.lt Ieee.neg
  fin_between true m e h k =
      omega (arith, rw (mul-one largest) at (ltb-false (largest * 1 * Ieee.down e) (m * Ieee.up e * 1) h))
  fin_between false m e h k =
      omega (arith, rw (mul-one largest) at (ltb-false (largest * 1 * Ieee.down e) (m * Ieee.up e * 1) k))

  finite_between : (x : Float) → Ieee.lt x (Ieee.neg end) ≡ false → Ieee.lt end x ≡ false → (x ≡ nan → ⊥) → Near (Ieee.add binary32 x shift)
  unfolding Ieee.lt Ieee.neg
  finite_between nan h k n = absurd (n refl)
  finite_between (inf true) h k n = absurd (true≢false h)
  finite_between (inf false) h k n = absurd (true≢false k)
  finite_between (fin s m e) h k n =
      shift_fin s m e (lt_of_le_of_lt (fin_between s m e h k) (mul-lt-mul_of_pos_right most (down_pos e)))

  module _ (x : Float) where
    abbrev pub back : Float
    back = Ieee.sub binary32 (Ieee.add binary32 x shift) shift

    -- a number of that size passes
    passes : nat_abs (whole_of x) ≤ largest → Ieee.eq back x ≡ true
    passes h =
        let z = whole_of x in
        let is : Represents x z = represents_small x (omega arith) in
        let c = pos 12582912 in
        let there : Represents (Ieee.add binary32 x shift) (z +ℤ c) =
        add_represents is shift_represents (omega (arith, parts z, parts (z +ℤ c), sum_parts z c)) in
        let same : z +ℤ c -ℤ c ≡ z = by_parts _ _ (omega (arith, sum_parts z c, sum_parts (z +ℤ c) (negsuc 12582911))) in
        represents_eq (subst (Represents back) same (sub_represents there shift_represents (rw same (omega arith)))) is

    -- what passes is a number of that size
    only : Ieee.lt x (Ieee.neg end) ≡ false → Ieee.lt end x ≡ false → Ieee.eq back x ≡ true → nat_abs (whole_of x) ≤ largest
    only h k e =
        let n : x ≡ nan → ⊥ = λ i. true≢false (sym e ∙ ap (Ieee.eq back) i ∙ no_nan back) in
        let near = finite_between x h k n in
        let c = pos 12582912 in
        let z = pos near.number -ℤ c in
        let there : Represents back z = sub_represents near.represents shift_represents
        (omega (arith, near.small, parts z, sum_parts (pos near.number) (negsuc 12582911))) in
        let is : Represents x z = eq_represents there e in
        rw (whole_of-is x z is) (between z (sym (lt_represents is low_represents) ∙ h) (sym (lt_represents end_represents is) ∙ k))

    pub reading_inside : Ieee.lt x (Ieee.neg end) ≡ false → Ieee.lt end x ≡ false → Ieee.eq back x ≡ leb (nat_abs (whole_of x)) largest
    reading_inside h k =
        ⊎_elim
        (λ l. is_false (Ieee.eq back x) (λ e. lt_irrefl largest (lt_of_lt_of_le l (only h k e))) ∙ sym (lt-leb (nat_abs (whole_of x)) largest l))
        (λ l. passes l ∙ sym (le-leb (nat_abs (whole_of x)) largest l))
        (lt_or_le largest (nat_abs (whole_of x)))

    -- what is beyond an end is not one
    pub reading-low : Ieee.lt x (Ieee.neg end) ≡ true → leb (nat_abs (whole_of x)) largest ≡ false
    reading-low h = lt-leb (nat_abs (whole_of x)) largest (⊎_elim (λ l. l) (λ l. absurd (no l)) (lt_or_le largest (nat_abs (whole_of x))))
      where
        no : nat_abs (whole_of x) ≤ largest → ⊥
        no l =
            let z = whole_of x in
            let low : lt_z z (neg_ℤ (pos largest)) ≡ true = sym (lt_represents (represents_small x (omega arith)) low_represents) ∙ h in
            omega (arith, parts z, negated (pos largest), less_parts z (neg_ℤ (pos largest)) low)

    pub reading_high : Ieee.lt end x ≡ true → leb (nat_abs (whole_of x)) largest ≡ false
    reading_high h = lt-leb (nat_abs (whole_of x)) largest (⊎_elim (λ l. l) (λ l. absurd (no l)) (lt_or_le largest (nat_abs (whole_of x))))
      where
        no : nat_abs (whole_of x) ≤ largest → ⊥
        no l =
            let z = whole_of x in
            let high : lt_z (pos largest) z ≡ true = sym (lt_represents end_represents (represents_small x (omega arith))) ∙ h in
            omega (arith, parts z, less_parts (pos largest) z high)
