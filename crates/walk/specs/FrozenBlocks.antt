-- Frozen indices that the frozen step takes at once at i, where a block of 16 starts: whether and how many, and what that leaves in the walk's arrays.
use Rattle.std.specs.Prelude.{◌≡◌, Bool, false, ◌&&◌, cond, List, ℕ, ◌+◌, ◌-◌, ◌%◌, ◌≤◌, ◌<◌, ℤ, length, drop, eqb, ltb}
use Rattle.std.proofs.Math.Seq.{paste}
use Rattle.decoding.specs.Readings.{sizes, sum_limit}
use Rattle.decoding.specs.Blocks.{zeros}
use Rattle.rows.specs.Rows.{row_of}
use Rattle.blocks.specs.Frozen.{frozen_run, run_adds}
use Rattle.walk.specs.declared.Block.{Block}
use Rattle.walk.specs.declared.progress.Count.{Count}
use Rattle.walk.specs.declared.progress.Progress.{Progress}
use Rattle.walk.specs.Progress.{drops, allows_more, counted_more, with_count}

-- such a block starts at i: not in a code of 16 or fewer positions, of which the scratch has no row of 16 sums
abbrev pub starts_block : Count → ℕ → Bool
starts_block c i = eqb (i % 16) 0 && ltb 4 c.m

-- how many
abbrev pub run_at : List ℕ → ℕ → ℕ
run_at k₀ i = frozen_run (drop i k₀)

-- the penalty after n zeros
abbrev pub run_penalty : List ℤ → ℕ → ℕ → ℕ
run_penalty s n p = p + run_adds n (row_of 16 s)

-- n zeros are taken, with the penalty q after them: they are not dropped, and their visits but the first, which is counted, are allowed
abbrev pub takes : ℕ → ℕ → Progress → Bool
takes n q w = cond (eqb n 0) false (cond (drops w q) false (allows_more (n - 1) w.count))

-- the arrays have room for the block of 16 indices at i, and the scratch has its row
pub record BlockRoom (k₀ : List ℕ) (s : List ℤ) (y : List ℕ) (i : ℕ) : Type 0 where
  pub room : i + 16 ≤ 256
  pub kinds : i + 16 ≤ length k₀
  pub path : i + 16 ≤ length y
  pub rows : 16 + 16 ≤ length s
  pub small : sizes (row_of 16 s) < sum_limit

pub record ZerosAsked (k₀ : List ℕ) (s : List ℤ) (y : List ℕ) (i p : ℕ) : Type 0 where
  pub low : p < sum_limit
  pub block : BlockRoom k₀ s y i

-- whether zeros are taken at i
abbrev pub taken_at : List ℕ → List ℤ → Progress → ℕ → ℕ → Bool
taken_at k₀ s w i p = takes (run_at k₀ i) (run_penalty s (run_at k₀ i) p) w

-- the answer: how many, and what they add; 0 where none is taken, and then nothing changes
pub record ZerosGiven (k₀ : List ℕ) (s : List ℤ) (y : List ℕ) (w : Progress) (i p : ℕ) (r : Block) (y' : List ℕ) (w' : Progress) : Type 0 where
  pub answers : r ≡ cond (taken_at k₀ s w i p) (record { length = run_at k₀ i; adds = run_adds (run_at k₀ i) (row_of 16 s) }) (record { length = 0; adds = 0 })
  pub path : y' ≡ cond (taken_at k₀ s w i p) (paste y i (zeros 16) 16) y
  pub counts : w' ≡ cond (taken_at k₀ s w i p) (with_count w (counted_more (run_at k₀ i - 1) w.count)) w
