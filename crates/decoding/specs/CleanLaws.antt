-- Readings without noise: s where the word c has 0 and -s where it has 1, s at least 1. Every word's penalty is s times its distance from c; so c is the
-- best word, with penalty 0, and the gap is s times the least distance: s × 2^(m-r) for RM(r,m). With the law of the gap (GapLaws) this says what noise
-- a code corrects.
use Rattle.std.specs.Prelude.{◌≡◌, ℕ, ℤ, pos}
use mathlib.Core.List.{List, map}
use Rattle.decoding.specs.Readings.{turn}
use Rattle.decoding.specs.Best.{least_penalty, best_bits, best_word}

abbrev pub clean : ℕ → List ℕ → List ℤ
clean s c = map (λ b. turn b (pos s)) c

-- ---- the best word
pub record CleanBest (m : ℕ) (ks c bits : List ℕ) (l : List ℤ) : Type 0 where
  pub clean-word : best_word m ks l ≡ c
  pub clean_bits : best_bits m ks l ≡ bits
  pub clean-penalty : least_penalty m ks l ≡ 0
