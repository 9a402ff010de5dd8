-- What the functions of the test require.
use Rattle.std.specs.Prelude.{◌≡◌, List, ℕ, ◌^◌, ◌<◌, ℤ, length}
use Rattle.decoding.specs.Readings.{Within}
use Rattle.sure.specs.Sure.{doubt}
use Rattle.code.specs.declared.Code.{Code}
use Rattle.code.specs.Sound.{Sound}
use Rattle.code.specs.SoundInput.{GoodReadings}

-- a word can be tested: n readings, none beyond the largest, and n bits
pub record Testable (c : Code) (l : List ℤ) (x : List ℕ) : Type 0 where
  pub sound : Sound c
  pub readings : GoodReadings c l
  pub long_word : length x ≡ 2 ^ c.m

-- the sum can be computed in 32 bits
pub record Summable (M : ℕ) (l : List ℤ) (x : List ℕ) : Type 0 where
  pub within : Within M l
  pub long : length x ≡ length l
  pub small : M < 2 ^ 31
  pub sum_small : doubt M l x < 2 ^ 32
