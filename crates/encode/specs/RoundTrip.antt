-- Theorems over the outcomes: `inverse` gives back what `encode` was given, `encode` gives back what `inverse` was given,
-- and `inverse` refuses as 5 exactly what no information bits give.
use Rattle.std.specs.Prelude.{◌≡◌, List, ℕ, ◌^◌, length}
use Rattle.words.specs.Bits.{Bits}
use Rattle.words.specs.Word.{transform}
use Rattle.words.specs.Kinds.{kinds, dimension, Word}
use Rattle.words.specs.Inverse.{LowestFrozenOne}
use Rattle.words.proofs.KindLaws.{length-kinds, bits_kinds, sum-kinds}
use Rattle.code.specs.declared.Refusal.TheVariants.{NotAWord}
use Rattle.code.specs.Sound.{rm}
use Rattle.code.specs.SoundInput.{SoundInput}
use Rattle.encode.specs.Outcome.{done, refused, encoding, inverting}
use Rattle.encode.specs.RoundTripLaws.{taken_again, encoded-again, lowest_frozen, no_bits_give, refused_five}

module _ (r m : ℕ) where
  -- ---- there and back
  -- what `encode` wrote, `inverse` takes back
  pub inverse_of_encode : (bits word x room : List ℕ) → encoding r m bits word ≡ done x → length room ≡ dimension r m → inverting r m x room ≡ done bits
  unfolding encoding inverting
  inverse_of_encode = taken_again r m (dimension r m) (kinds r m) (length-kinds r m) (bits_kinds r m) (sum-kinds r m)

  -- what `inverse` wrote, `encode` gives again
  pub encode_of_inverse : (word bits b room : List ℕ) → inverting r m word bits ≡ done b → length room ≡ 2 ^ m → encoding r m b room ≡ done word
  unfolding encoding inverting
  encode_of_inverse = encoded-again r m (dimension r m) (kinds r m) (length-kinds r m) (bits_kinds r m) (sum-kinds r m)

  -- ---- refusal 5, for what the tests 1 to 4 let through
  module _ (word bits : List ℕ) (i : ℕ) (e : inverting r m word bits ≡ refused (NotAWord i) bits) where
    -- i is the lowest frozen index at which the word's row is 1
    pub five_lowest : LowestFrozenOne (kinds r m) (transform m word) i
    unfolding inverting
    five_lowest = lowest_frozen r m (dimension r m) (kinds r m) (length-kinds r m) (bits_kinds r m) (sum-kinds r m) word bits i e

    -- no information bits give the word
    pub five_no_word : Word m (kinds r m) word → ⊥
    unfolding inverting
    five_no_word = no_bits_give r m (dimension r m) (kinds r m) (length-kinds r m) (bits_kinds r m) (sum-kinds r m) word bits i e

  -- and conversely: what no information bits give is refused as 5
  pub no_word_five : (word bits : List ℕ) → SoundInput (rm r m) (length bits) (length word) (Bits word) → (Word m (kinds r m) word → ⊥)
      → (i : ℕ) × (inverting r m word bits ≡ refused (NotAWord i) bits)
  unfolding inverting
  no_word_five = refused_five r m (dimension r m) (kinds r m) (length-kinds r m) (bits_kinds r m) (sum-kinds r m)
