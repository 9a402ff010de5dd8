-- What the work over the kinds that are left requires.
use Rattle.std.specs.Prelude.{◌≡◌, List, ℕ, ◌-◌, ◌^◌, ◌≤◌, ℤ, length, replicate}
use Rattle.std.proofs.Common.{ap, sym, ◌∙◌}
use borrow.Rule.Slice.PartMut.{mid_of, put_mid}
use Rattle.numbers.specs.Lent.{lent_again}
use Rattle.numbers.specs.Sums.{sum}
use Rattle.words.specs.Bits.{Bits}
use Rattle.words.proofs.KindLaws.{length-kinds, bits_kinds}
use Rattle.code.specs.declared.Code.{Code}
use Rattle.code.specs.Sound.{largest_m}
use Rattle.code.specs.SoundInput.{GoodReadings, SoundFor}
use Rattle.named.specs.NamedLaws.{length-left, bits_left}
use Rattle.encode.specs.Work.{ByKinds}
use Rattle.quick.specs.Engine.{Sized}
use Rattle.quick.specs.OutcomeLaws.{sums_small}
use Rattle.shortened.specs.Outcome.{left_of}

-- the kinds left are a row of n kinds
pub long_left : (named : List ℕ) (c : Code) → length (left_of named c) ≡ 2 ^ c.m
long_left named c = length-left named _ ∙ length-kinds c.r c.m

pub are_left : (named : List ℕ) (c : Code) → Bits (left_of named c)
are_left named c = bits_left named _ (bits_kinds c.r c.m)

-- what a row of scratch holds once the kinds that are left came back at its front
pub left-read : (named : List ℕ) (c : Code) (n : ℕ) (k : List ℕ) → k ≡ left_of named c → n ≡ 2 ^ c.m
    → mid_of 0 (n - 0) (put_mid 0 (n - 0) (replicate 256 0) k) ≡ left_of named c
left-read named c n k is e = lent_again n (replicate 256 0) k (ap length is ∙ long_left named c ∙ sym e) ∙ is

module _ (named : List ℕ) (c : Code) {ks : List ℕ} (read : ks ≡ left_of named c) where
  -- what the encoder and the inverse ask of these kinds, of bits and a word of the right lengths,
  pub left_by_kinds : (bits word : List ℕ) → length bits ≡ sum (left_of named c) → length word ≡ 2 ^ c.m → ByKinds c.m ks bits word
  left_by_kinds bits word b w = rw read (record { long_kinds = long_left named c; are_kinds = are_left named c; long_bits = b; long_word = w })

  -- and what the quick reading asks, of readings too
  pub left-asked : (l : List ℤ) (bits word : List ℕ) → SoundFor c (sum (left_of named c)) (length bits) (length word) (GoodReadings c l)
      → (c.m ≤ largest_m) × Sized c.m ks word l × (length bits ≡ sum ks) × Bits ks
  left-asked l bits word a =
      rw read (
        a.sound.m_small,
        record { long_kinds = long_left named c; long_word = a.long_word; long_row = a.entries.long; small = sums_small a },
        a.long_bits,
        are_left named c,
      )
