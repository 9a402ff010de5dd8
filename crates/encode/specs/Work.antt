-- The work over a row of kinds: what it is given, and a step of `inverse`.
use Rattle.std.specs.Prelude.{◌≡◌, List, cond, ℕ, ◌^◌, length, ltb}
use Rattle.numbers.specs.Sums.{sum}
use Rattle.words.specs.Bits.{Bits}
use Rattle.words.specs.Kinds.{pick}
use Rattle.words.specs.Inverse.{first_frozen_one}
use Rattle.code.specs.declared.Refusal.TheVariants.{NotAWord}
use Rattle.encode.specs.Outcome.{Outcome, done, refused}

-- what is taken back from a row u
abbrev pub taking_row : List ℕ → List ℕ → List ℕ → Outcome
taking_row ks u bits = cond (ltb (first_frozen_one ks u) (length ks)) (refused (NotAWord (first_frozen_one ks u)) bits) (done (pick ks u))

-- a row of 2^m kinds, as many bits as it has information indices, and a word of 2^m bits
pub record ByKinds (m : ℕ) (kinds bits word : List ℕ) : Type 0 where
  pub long_kinds : length kinds ≡ 2 ^ m
  pub are_kinds : Bits kinds
  pub long_bits : length bits ≡ sum kinds
  pub long_word : length word ≡ 2 ^ m
