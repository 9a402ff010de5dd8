-- The running sums of at most 256 readings, by the bound for any largest reading: none is above 256 × 32,767 = 8,388,352, and one reaches it.
-- No penalty is above it, nor the least penalty plus the gap. What comes out of a record has a bound of its own: record/specs/RunningSums.antt.
use Rattle.std.specs.Prelude.{◌≡◌, List, ℕ, ◌+◌, ◌≤◌, ℤ, pos, nat_abs, length, get_or, replicate}
use Rattle.std.proofs.Common.{arith}
use Rattle.numbers.specs.Sums.{sum}
use Rattle.decoding.specs.Readings.{penalty, sizes, Within}
use Rattle.decoding.specs.Best.{least_penalty, gap}
use Rattle.decoding.specs.Walk.{value}
use Rattle.decoding.specs.StepLaws.{sizes_within, penalty-sizes}
use Rattle.decoding.specs.BoundLaws.{Step, sums_after, running_sum_most, gap_most, value_attained}
use Rattle.code.specs.Sound.{largest_reading}

module _ (l : List ℤ) (short : length l ≤ 256) (within : Within largest_reading l) where
  pub sums_most : sizes l ≤ 8388352
  sums_most = omega (arith, sizes_within largest_reading l within)

  pub running_sum : (s : List Step) (i : ℕ) → nat_abs (get_or (sums_after l s) i (pos 0)) ≤ 8388352
  running_sum s i = omega (arith, running_sum_most largest_reading l within s i)

  -- for every word, and for any row of kinds that has an information index
  pub penalty_most : (x : List ℕ) → penalty l x ≤ 8388352
  penalty_most x = omega (arith, penalty-sizes l x, sums_most)

  pub penalty-and-gap : (m : ℕ) (ks : List ℕ) → 1 ≤ sum ks → least_penalty m ks l + gap m ks l ≤ 8388352
  penalty-and-gap m ks information = omega (arith, gap_most largest_reading l within m ks information)

-- all readings 32,767 and all bits 0: the value at the last index
pub sum_reached : value 8 (replicate 256 (pos largest_reading)) (replicate 255 0) ≡ pos 8388352
sum_reached = value_attained 8 largest_reading
