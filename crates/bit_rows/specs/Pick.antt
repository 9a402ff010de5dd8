-- Picking into the front of a buffer: what it leaves, and what it requires.
use Rattle.std.specs.Prelude.{List, ◌++◌, ℕ, ◌≤◌, length, drop}
use Rattle.numbers.specs.Sums.{sum}
use Rattle.words.specs.Bits.{Bits}
use Rattle.words.specs.Kinds.{pick}

-- the bits of the row u at the information indices, then what b held after that many
abbrev pub pick_front : List ℕ → List ℕ → List ℕ → List ℕ
pick_front ks u b = pick ks u ++ drop (sum ks) b

-- the row and the buffer may be longer
pub record Pickable (kinds row bits : List ℕ) : Type 0 where
  pub long : length kinds ≤ length row
  pub room : sum kinds ≤ length bits
  pub bits_kinds : Bits kinds
