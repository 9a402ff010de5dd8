-- What the walk without a limit holds at its end: dropping loses nothing, and the full paths are all rows of the code,
-- so the two held are rows with the least penalty and the next one; with a gap above 0 the first is the best word's row.
use Rattle.std.specs.Prelude.{◌≡◌, ℤ}
use mathlib.Core.List.{List}
use Prim.Native.Nat.{ℕ, ◌+◌, ◌^◌}
use Rattle.std.proofs.Math.ListN.{length}
use Rattle.words.specs.Bits.{Bits}
use Rattle.words.specs.Word.{transform}
use Rattle.words.specs.Kinds.{Frozen}
use Rattle.decoding.specs.Readings.{penalty}
use Rattle.decoding.specs.Best.{least_penalty, gap}
use Rattle.decoding.specs.Walk.{Full}

-- ---- the walk's end
-- a full path that is a row of the code, with its word's penalty
pub record CodePath (m : ℕ) (ks : List ℕ) (l : List ℤ) (f : Full) : Type 0 where
  pub long : length f.path ≡ 2 ^ m
  pub are_bits : Bits f.path
  pub frozen : Frozen ks f.path
  pub has : f.penalty ≡ penalty l (transform m f.path)

pub record WalkEnd (m : ℕ) (ks : List ℕ) (l : List ℤ) (best second : Full) : Type 0 where
  pub best_path : CodePath m ks l best
  pub second_path : CodePath m ks l second
  pub least_penalty_lem : best.penalty ≡ least_penalty m ks l
  pub next-least : second.penalty ≡ least_penalty m ks l + gap m ks l
  pub differ : best.path ≡ second.path → ⊥
