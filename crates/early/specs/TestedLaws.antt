-- The loops of the test, one more position at a time, and that the sum fits in 32 bits.
use Rattle.std.specs.Prelude.{◌≡◌, List, [], ◌∷◌, ℕ, zero, suc, ◌+◌, ◌-◌, ◌*◌, ◌^◌, ◌%◌, ◌≤◌, ◌<◌, max, ℤ, pos, nat_abs, length, get_or, take}
use Rattle.std.proofs.Common.{sym, ◌∙◌, zero-le, arith, add-one, not-suc-le-zero, le_of_suc-le-suc, mul-le-mul_left, one-mul, mod-eq_of_lt, pow_mono}
use Rattle.numbers.specs.PartsLaws.{parts}
use Rattle.decoding.specs.Readings.{Within}
use Rattle.sure.specs.Sure.{largest, doubt_at, doubt}
use Rattle.sure.proofs.LargestLaws.{within_largest, largest-least}
use Rattle.code.specs.declared.Code.{Code}
use Rattle.code.specs.Sound.{largest_reading}
use Rattle.code.specs.SoundLaws.{length_most}
use Rattle.early.specs.Work.{Testable, Summable}

-- ---- the largest size
suc_larger : (l : List ℤ) (j : ℕ) → j < length l → largest (take (suc j) l) ≡ max (largest (take j l)) (nat_abs (get_or l j (pos 0)))
unfolding largest
suc_larger [] j h = absurd (not-suc-le-zero h)
suc_larger (x ∷ l) zero h = omega arith
suc_larger (x ∷ l) (suc j) h = omega (arith, suc_larger l j (le_of_suc-le-suc h))

pub largest-more : (l : List ℤ) (j : ℕ) → j < length l → largest (take (j + 1) l) ≡ max (largest (take j l)) (nat_abs (get_or l j (pos 0)))
largest-more l j h = rw add-one (suc_larger l j h)

-- ---- the sum
suc-doubt : (M : ℕ) (l : List ℤ) (x : List ℕ) (j : ℕ) → j < length l → j < length x
    → doubt M (take (suc j) l) x ≡ doubt M (take j l) x + doubt_at M (get_or l j (pos 0)) (get_or x j 0)
unfolding doubt
suc-doubt M [] x j h k = absurd (not-suc-le-zero h)
suc-doubt M (r ∷ l) [] j h k = absurd (not-suc-le-zero k)
suc-doubt M (r ∷ l) (b ∷ x) zero h k = omega arith
suc-doubt M (r ∷ l) (b ∷ x) (suc j) h k = omega (arith, suc-doubt M l x j (le_of_suc-le-suc h) (le_of_suc-le-suc k))

pub doubt-more : (M : ℕ) (l : List ℤ) (x : List ℕ) (j : ℕ) → j < length l → j < length x
    → doubt M (take (j + 1) l) x ≡ doubt M (take j l) x + doubt_at M (get_or l j (pos 0)) (get_or x j 0)
doubt-more M l x j h k = rw add-one (suc-doubt M l x j h k)

pub doubt-part : (M : ℕ) (l : List ℤ) (x : List ℕ) (j : ℕ) → doubt M (take j l) x ≤ doubt M l x
unfolding doubt
doubt-part M l x zero = zero-le
doubt-part M [] x (suc j) = zero-le
doubt-part M (r ∷ l) [] (suc j) = zero-le
doubt-part M (r ∷ l) (b ∷ x) (suc j) = omega (arith, doubt-part M l x j)

doubt_at_most : (M : ℕ) (x : ℤ) (b : ℕ) → nat_abs x ≤ M → doubt_at M x b ≤ 2 * M
doubt_at_most M x zero h = omega (arith, parts x)
doubt_at_most M x (suc b) h = omega (arith, parts x)

doubt_most : (M : ℕ) (l : List ℤ) (x : List ℕ) → Within M l → doubt M l x ≤ length l * (2 * M)
unfolding doubt
doubt_most M [] x h = zero-le
doubt_most M (r ∷ l) [] h = zero-le
doubt_most M (r ∷ l) (b ∷ x) h = omega (arith, doubt_at_most M r b (h 0), doubt_most M l x (λ i. h (suc i)))

-- ---- the test in 32 bits: no size is above the largest reading, and there are at most 256
module _ {c : Code} {l : List ℤ} {x : List ℕ} (t : Testable c l x) where
  small_largest : largest l ≤ largest_reading
  small_largest = largest-least largest_reading l t.readings.within

  pub summable : {M : ℕ} → M ≡ largest l → Summable M l x
  summable {M} is =
      rw is
      (record {
        within = within_largest l;
        long = t.long_word ∙ sym t.readings.long;
        small = omega (arith, small_largest);
        sum_small =
            let twice : 2 * largest l ≤ 2 * largest_reading = omega (arith, small_largest) in
            omega (arith, doubt_most (largest l) l x (within_largest l), mul-le-mul_left (length l) twice, t.readings.long, length_most t.sound);
      })

  distance_small : 2 ^ (c.m - c.r) ≤ 256
  distance_small = pow_mono {i = c.m - c.r} {j = 8} (omega (arith, t.sound.m_small))

  pub distance-made : 1 * 2 ^ (c.m - c.r) % 2 ^ 32 ≡ 2 ^ (c.m - c.r)
  distance-made = rw one-mul (mod-eq_of_lt (omega (arith, distance_small)))

  pub bound_fits : {M : ℕ} → M ≡ largest l → M * 2 ^ (c.m - c.r) < 2 ^ 32
  bound_fits {M} is = omega (arith, mul-le-mul_left M distance_small, small_largest, is)
