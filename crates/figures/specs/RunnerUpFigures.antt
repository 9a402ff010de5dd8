-- The runner-up's figures, by what the search reports and leaves. A lent buffer of the right length may hold anything.
use Rattle.std.specs.Prelude.{◌≡◌, refl, List, [], ◌∷◌, map, ℕ, ℤ, pos, negsuc, neg_ℤ, replicate}
use Rattle.numbers.specs.Sums.{total, tabulate, sum}
use Rattle.numbers.specs.Least.{least, without, next, first_with}
use Rattle.words.specs.Bits.{digit, ones}
use Rattle.words.specs.Word.{transform}
use Rattle.words.specs.Kinds.{kind, kinds, choose, dimension, all_bits}
use Rattle.decoding.specs.Readings.{penalty}
use Rattle.decoding.specs.Best.{penalties, least_penalty, gap, best_bits, best_word}
use Rattle.decoding.specs.Walk.{value, walk, walked}
use Rattle.decoding.specs.Answer.{answer}
use Rattle.decoding.specs.Examples.{sample}
use Rattle.code.specs.Sound.{made}
use Rattle.code.specs.Entries.{first_above}
use Rattle.code.specs.Admitted.{admitted_for}
use Rattle.search.specs.Outcome.{Outcome, searching}
use Rattle.search.specs.RunnerUp.{RunnerUpOutcome, runner_up, searching_with_runner_up}
use Rattle.figures.specs.BenchFigures.{found, unfound}

abbrev pub beside : Outcome → List ℕ → RunnerUpOutcome
beside o x = record { outcome = o; runner_up = x }

-- 1 1 0 -1 0 0 1 0: full paths of penalty 1, 3, 1 and 0 are held in this order
abbrev pub doubtful : List ℤ
doubtful = pos 1 ∷ pos 1 ∷ pos 0 ∷ negsuc 0 ∷ pos 0 ∷ pos 0 ∷ pos 1 ∷ pos 0 ∷ []

pub record RunnerUpFigures : Type 0 where
  -- the old best becomes second, 0000, though the old second, 0011, ties with it
  pub doubtful_13 : (a b c d e f g h i j k l : ℕ)
      → searching_with_runner_up 1 3 21 doubtful (a ∷ b ∷ c ∷ d ∷ []) (e ∷ f ∷ g ∷ h ∷ i ∷ j ∷ k ∷ l ∷ [])
      ≡ beside (found (1 ∷ 1 ∷ 0 ∷ 0 ∷ []) (0 ∷ 0 ∷ 1 ∷ 1 ∷ 1 ∷ 1 ∷ 0 ∷ 0 ∷ []) 0 1 21) (0 ∷ 0 ∷ 0 ∷ 0 ∷ replicate 252 0)
  pub negated_12 : (a b c d e f g : ℕ) → searching_with_runner_up 1 2 9 (map neg_ℤ sample) (a ∷ b ∷ c ∷ []) (d ∷ e ∷ f ∷ g ∷ [])
      ≡ beside (found (0 ∷ 1 ∷ 0 ∷ []) (1 ∷ 0 ∷ 1 ∷ 0 ∷ []) 1 1 9) (0 ∷ 0 ∷ 1 ∷ replicate 253 0)
  -- with two words it is the other one; if they tie, there is none
  pub reading_3 : (a b : ℕ) → searching_with_runner_up 0 0 2 (pos 3 ∷ []) (a ∷ []) (b ∷ []) ≡ beside (found (0 ∷ []) (0 ∷ []) 0 3 2) (1 ∷ replicate 255 0)
  pub reading_0 : (a b : ℕ) → searching_with_runner_up 0 0 2 (pos 0 ∷ []) (a ∷ []) (b ∷ []) ≡ beside (unfound 7 0 2 (a ∷ []) (b ∷ [])) (replicate 256 0)

pub runner_up_figures : RunnerUpFigures
unfolding kinds kind ones digit tabulate total sum dimension choose transform all_bits penalty penalties least_penalty gap best_bits best_word
    least without next first_with value walk walked answer made first_above admitted_for searching runner_up
runner_up_figures =
    record {
      doubtful_13 = λ a b c d e f g h i j k l. refl;
      negated_12 = λ a b c d e f g. refl;
      reading_3 = λ a b. refl;
      reading_0 = λ a b. refl;
    }
