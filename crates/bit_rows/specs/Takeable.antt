-- What taking a word's information bits requires: as many kinds as bits of the word, and room for as many as there are information indices.
use Rattle.std.specs.Prelude.{◌≡◌, List, ℕ, ◌^◌, length}
use Rattle.numbers.specs.Sums.{sum}
use Rattle.words.specs.Bits.{Bits}

pub record Takeable (m : ℕ) (kinds word bits : List ℕ) : Type 0 where
  pub long_kinds : length kinds ≡ 2 ^ m
  pub long_word : length word ≡ 2 ^ m
  pub long_bits : length bits ≡ sum kinds
  pub bits_kinds : Bits kinds
  pub bits_word : Bits word
