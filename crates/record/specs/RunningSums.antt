-- How large the combining steps' sums, the walk's values and penalties can be: one statement for any largest reading, used for both numbers, 32,767 and 2,047.
-- For what comes out of a record the second holds: no running sum is above 256 × 2,047 = 524,032, and one reaches it.
use Rattle.std.specs.Prelude.{◌≡◌, List, ℕ, ◌+◌, ◌*◌, ◌≤◌, ℤ, pos, nat_abs, length, get_or, replicate, Ok}
use Rattle.std.proofs.Common.{arith, mul-le-mul_right}
use Rattle.numbers.specs.Sums.{sum}
use Rattle.decoding.specs.Readings.{penalty, Within}
use Rattle.decoding.specs.Best.{least_penalty, gap}
use Rattle.decoding.specs.Quick.{lower_row, upper_row}
use Rattle.decoding.specs.Walk.{value}
use Rattle.decoding.specs.StepLaws.{sizes_within, entry-sizes, sizes-lower_row, sizes-upper_row, penalty-sizes}
use Rattle.decoding.specs.BoundLaws.{Step, sums_after, running_sum_most, value_most, gap_most, value_attained}
use Rattle.code.specs.declared.Code.{Code}
use Rattle.code.specs.Sound.{largest_reading, largest_record_reading}
use Rattle.code.specs.SoundLaws.{length_most}
use Rattle.record.specs.Reader.{readings_of, header_of}
use Rattle.record.specs.ReaderLaws.{framed_record, length-readings_of}
use Rattle.record.specs.Accepted.{readings_within}

-- for at most 256 readings up to `largest`: nothing is above `most`
pub record SizesMost (largest most : ℕ) : Type 0 where
  -- each entry of a combining step's row
  pub lower_step : (l : List ℤ) → length l ≤ 256 → Within largest l → (h i : ℕ) → nat_abs (get_or (lower_row h l) i (pos 0)) ≤ most
  pub upper_step : (l : List ℤ) → length l ≤ 256 → Within largest l → (h : ℕ) (a : List ℕ) (i : ℕ) → nat_abs (get_or (upper_row h l a) i (pos 0)) ≤ most
  -- each running sum, after any steps
  pub running_sum : (l : List ℤ) → length l ≤ 256 → Within largest l → (s : List Step) (i : ℕ) → nat_abs (get_or (sums_after l s) i (pos 0)) ≤ most
  -- each value of the walk, each row's penalty, and the least one plus the gap
  pub value_of : (l : List ℤ) → length l ≤ 256 → Within largest l → (m : ℕ) (u : List ℕ) → nat_abs (value m l u) ≤ most
  pub penalty_of_lem : (l : List ℤ) → length l ≤ 256 → Within largest l → (x : List ℕ) → penalty l x ≤ most
  pub penalty-and-gap : (l : List ℤ) → length l ≤ 256 → Within largest l → (m : ℕ) (ks : List ℕ) → 1 ≤ sum ks → least_penalty m ks l + gap m ks l ≤ most
  -- and one value reaches it
  pub reached : value 8 (replicate 256 (pos largest)) (replicate 255 0) ≡ pos most

-- 256 times the largest
times_256 : (largest n : ℕ) → n ≤ 256 → n * largest ≤ 256 * largest
times_256 largest n h = mul-le-mul_right largest h

pub sizes_most : (largest : ℕ) → SizesMost largest (256 * largest)
sizes_most largest =
    record {
      lower_step = λ l short within h i.
          omega (
            arith,
            entry-sizes (lower_row h l) i,
            sizes-lower_row h l,
            sizes_within largest l within,
            times_256 largest (length l) short,
          );
      upper_step = λ l short within h a i.
          omega (
            arith,
            entry-sizes (upper_row h l a) i,
            sizes-upper_row h l a,
            sizes_within largest l within,
            times_256 largest (length l) short,
          );
      running_sum = λ l short within s i. omega (arith, running_sum_most largest l within s i, times_256 largest (length l) short);
      value_of = λ l short within m u. omega (arith, value_most largest l within m u, times_256 largest (length l) short);
      penalty_of_lem = λ l short within x. omega (arith, penalty-sizes l x, sizes_within largest l within, times_256 largest (length l) short);
      penalty-and-gap = λ l short within m ks information.
          omega (arith, gap_most largest l within m ks information, times_256 largest (length l) short);
      reached = value_attained 8 largest;
    }

-- for both numbers
pub readings_most : SizesMost largest_reading 8388352
readings_most = sizes_most largest_reading

pub record_readings_most : SizesMost largest_record_reading 524032
record_readings_most = sizes_most largest_record_reading

-- for the bytes p, which begin with a record of the code c
pub running_sum_record : (p : List ℕ) (c : Code) → header_of p ≡ Ok c
    → (s : List Step) (i : ℕ) → nat_abs (get_or (sums_after (readings_of c p) s) i (pos 0)) ≤ 524032
running_sum_record p c is s i =
    let f = framed_record p c is in
    let most = running_sum_most largest_record_reading (readings_of c p) (readings_within c p) s i in
    omega (arith, most, length-readings_of c p f.whole, length_most f.sound)

pub sum_reached_record : value 8 (replicate 256 (pos largest_record_reading)) (replicate 255 0) ≡ pos 524032
sum_reached_record = value_attained 8 largest_record_reading
