-- What the tests 1 and 2 on a map give.
use Rattle.std.specs.Prelude.{◌≡◌, false, cond, List, ℕ, ◌≤◌, ltb}
use Rattle.code.specs.declared.Refusal.{Refusal}
use Rattle.code.specs.declared.Refusal.TheVariants.{Parameters, InputLength}
use Rattle.code.specs.Sound.{largest_m}
use Rattle.images.specs.Images.{is_long, MapMade}

-- 1 and 2 leave the map
pub record Given (m : ℕ) (A b : List ℕ) (m' : ℕ) (A' b' : List ℕ) : Type 0 where
  pub small : m ≤ largest_m
  pub made : MapMade m A b m' A' b'

-- or one of them does not; of a table and a row by their lengths
pub record NotGiven (m table row : ℕ) (why : Refusal) : Type 0 where
  pub says_why : why ≡ cond (ltb largest_m m) Parameters InputLength
  pub wrong : m ≤ largest_m → is_long m table row ≡ false
