-- Words by their parity checks, and so the meaning of refusal 5: n bits are a word exactly if, for every frozen index i, they have an even number of ones
-- at the places j that have every one-bit of i; refusal 5 carries the lowest i whose check fails.
use Rattle.std.specs.Prelude.{◌≡◌, cond, ℕ, ◌^◌, ◌%◌, ◌<◌}
use mathlib.Core.List.{List}
use Rattle.std.proofs.Math.ListN.{get_or}
use Rattle.numbers.specs.Sums.{total}
use Rattle.words.specs.Word.{covers}

-- check i of x: how many ones x has at the places j that have every one-bit of i
unfoldable pub ones_above : ℕ → List ℕ → ℕ → ℕ
ones_above m x i = total (λ j. cond (covers m i j) (get_or x j 0) 0) (2 ^ m)

abbrev pub Even : ℕ → Type 0
Even n = n % 2 ≡ 0

-- i is the lowest frozen index whose check fails
pub record LowestFailed (m : ℕ) (ks x : List ℕ) (i : ℕ) : Type 0 where
  pub below : i < 2 ^ m
  pub frozen : get_or ks i 0 ≡ 0
  pub odd : ones_above m x i % 2 ≡ 1
  pub lowest : (j : ℕ) → j < i → get_or ks j 0 ≡ 0 → Even (ones_above m x j)
