-- Frozen indices taken at once: how many of a block of 16, and what their zeros add by the block's row of sums.
use Rattle.std.specs.Prelude.{Bool, cond, List, ℕ, min, ℤ, get_or, take, replicate, eqb}
use Rattle.numbers.specs.Sums.{sum}
use Rattle.decoding.specs.Readings.{penalty}

-- no kind is an information index's
abbrev pub all_frozen : List ℕ → Bool
all_frozen kinds = eqb (sum kinds) 0

-- of kinds that begin a block of 16: all where all are frozen, 15 where only the last is not, else none
abbrev pub frozen_run : List ℕ → ℕ
frozen_run kinds = cond (all_frozen (take 15 kinds)) (cond (eqb (get_or kinds 15 0) 0) 16 15) 0

-- what the same bit everywhere loses at a row of 16 sums
abbrev pub lost_by : ℕ → List ℤ → ℕ
lost_by b row = penalty row (replicate 16 b)

-- what n zeros add at that row, n being 16 or 15
abbrev pub run_adds : ℕ → List ℤ → ℕ
run_adds n row = cond (eqb n 16) (lost_by 0 row) (min (lost_by 0 row) (lost_by 1 row))
