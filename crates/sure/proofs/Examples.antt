-- Examples, computed from the definitions, as one statement; and one real case, where the theorem covers all 65,536 words of RM(2,5)
-- without trying them one by one.
use Rattle.std.specs.Prelude.{refl, List, [], ◌∷◌, ℕ}
use Rattle.std.proofs.Common.{arith}
use Rattle.numbers.specs.Sums.{total, tabulate, sum}
use Rattle.numbers.specs.Least.{least, without, next, first_with}
use Rattle.words.specs.Bits.{digit, ones}
use Rattle.words.specs.Word.{transform}
use Rattle.words.specs.Kinds.{kind, kinds, all_bits}
use Rattle.words.specs.Distance.{distance}
use Rattle.decoding.specs.Readings.{penalty}
use Rattle.decoding.specs.Quick.{quick_word, quick_bits}
use Rattle.decoding.specs.Best.{penalties, least_penalty, gap, best_bits, best_word}
use Rattle.decoding.specs.Walk.{value, walk, walked}
use Rattle.decoding.specs.Answer.{answer}
use Rattle.sure.specs.Sure.{largest, doubt}
use Rattle.sure.specs.Test.{is_sure}
use Rattle.sure.proofs.LargestLaws.{within_largest}
use Rattle.sure.proofs.SureLaws.{inside_code, quick_sure}
use Rattle.sure.specs.Examples.{Examples, hull, Hull}

abbrev sent : List ℕ
sent = 0 ∷ 0 ∷ 1 ∷ 1 ∷ 1 ∷ 1 ∷ 0 ∷ 0 ∷ []

pub examples : Examples
unfolding kinds kind ones digit tabulate total sum transform all_bits penalty penalties least_penalty gap best_bits best_word
    least without next first_with value walk walked answer quick_word quick_bits distance doubt largest is_sure
examples =
    record {
      noisy_errors = refl;
      noisy-sum = refl;
      noisy_sure = refl;
      noisy_quick = refl;
      noisy_bits = refl;
      noisy-answer = refl;
      sample-sum = refl;
      sample_unsure = refl;
      sample_quick = refl;
      bound_sum = refl;
      bound_unsure = refl;
      bound_quick = refl;
      bound_tied = refl;
    }

pub hull-is : Hull
unfolding kinds kind ones digit tabulate total transform quick_word quick_bits distance doubt largest
hull-is =
    record {
      errors = refl;
      largest-is = refl;
      sum_is = refl;
      right = quick_sure 100 2 5 (kinds 2 5) hull (omega arith) (inside_code 2 5)
          (record { at_least_one = omega arith; within = within_largest hull; long = refl; below = omega arith });
    }
