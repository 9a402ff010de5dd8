-- Sound input: what holds for a call's arguments exactly if none of the tests 1 to 4 applies (AdmittedLaws; for bits, the laws of `encode`).
use Rattle.std.specs.Prelude.{◌≡◌, List, ℕ, ◌^◌, ◌≤◌, ℤ, pos, nat_abs, length, get_or}
use Rattle.words.specs.Kinds.{dimension}
use Rattle.code.specs.declared.Code.{Code}
use Rattle.code.specs.Sound.{Sound, largest_reading}

-- rows of these lengths for the information bits, of which this many are expected, and for the word; and all given entries are good
pub record SoundFor (c : Code) (expected bits word : ℕ) (good : Type 0) : Type 0 where
  pub sound : Sound c
  pub long_bits : bits ≡ expected
  pub long_word : word ≡ 2 ^ c.m
  pub entries : good

-- k
abbrev pub dimension_of : Code → ℕ
dimension_of c = dimension c.r c.m

abbrev pub SoundInput : Code → ℕ → ℕ → Type 0 → Type 0
SoundInput c bits word good = SoundFor c (dimension_of c) bits word good

-- n readings, none beyond the largest
pub record GoodReadings (c : Code) (l : List ℤ) : Type 0 where
  pub long : length l ≡ 2 ^ c.m
  pub within : (i : ℕ) → nat_abs (get_or l i (pos 0)) ≤ largest_reading

-- of readings, and the lengths of two outputs
abbrev pub SoundReadings : Code → List ℤ → ℕ → ℕ → Type 0
SoundReadings c l bits word = SoundInput c bits word (GoodReadings c l)
