-- Examples that show why the rules are as they are, computed from the definitions, as one statement.
use Rattle.std.specs.Prelude.{refl, List, [], ◌∷◌, ℕ, zero, suc}
use Rattle.std.proofs.Common.{sym, ◌∙◌, arith}
use Rattle.numbers.specs.Sums.{total, tabulate, sum}
use Rattle.numbers.specs.Least.{least, without, next, first_with}
use Rattle.words.specs.Bits.{Bits, digit, ones}
use Rattle.words.specs.Word.{transform}
use Rattle.words.specs.Kinds.{kind, kinds, all_bits, Word}
use Rattle.decoding.specs.Readings.{penalty}
use Rattle.decoding.specs.Best.{penalties, least_penalty, gap, best_bits, best_word}
use Rattle.decoding.specs.Quick.{quick_word, quick_bits, quick_penalty}
use Rattle.decoding.specs.Walk.{value, Full, walk, walked}
use Rattle.decoding.specs.Answer.{answer}
use Rattle.decoding.specs.Examples.{zero_met, Examples, EqualVisits}

abbrev full : List ℕ → ℕ → Full
full u p = record { path = u; penalty = p }

pub examples : Examples
unfolding kinds kind ones digit tabulate total sum transform all_bits penalty penalties least_penalty gap best_bits best_word
    least without next first_with value walk walked answer quick_word quick_bits quick_penalty
examples =
    record {
      lower_differ = refl;
      lower_same = refl;
      lower-zero = refl;
      upper_added = refl;
      upper_taken = refl;
      out_12 = refl;
      halves_11 = refl;
      quick_11 = refl;
      before-second = refl;
      second_12 = refl;
      word-turned = refl;
      visits_25 = refl;
      visits_21 = refl;
      value-zero = refl;
      equal_pair = refl;
      then_better = refl;
      answer_better = refl;
      quick_bits_lem = refl;
      quick-word = refl;
      quick_penalty_lem = refl;
      best_missed = refl;
    }

bits_0100 : Bits (0 ∷ 1 ∷ 0 ∷ 0 ∷ [])
bits_0100 zero = omega arith
bits_0100 (suc zero) = omega arith
bits_0100 (suc (suc zero)) = omega arith
bits_0100 (suc (suc (suc zero))) = omega arith
bits_0100 (suc (suc (suc (suc i)))) = omega arith

word_11001100 : Word 3 (kinds 1 3) (1 ∷ 1 ∷ 0 ∷ 0 ∷ 1 ∷ 1 ∷ 0 ∷ 0 ∷ [])
unfolding kinds kind ones digit tabulate sum
word_11001100 = record { bits = 0 ∷ 1 ∷ 0 ∷ 0 ∷ []; long = refl; are_bits = bits_0100; gives = examples.word-turned }

-- 21 visits are not 25
pub visits_differ : EqualVisits → ⊥
visits_differ equal =
    omega (arith, sym examples.visits_21 ∙ equal 1 3 zero_met (1 ∷ 1 ∷ 0 ∷ 0 ∷ 1 ∷ 1 ∷ 0 ∷ 0 ∷ []) refl word_11001100 ∙ examples.visits_25)
