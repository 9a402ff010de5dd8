-- Examples, computed from the definitions, as one statement; and one real case, where the theorem covers all 65,536 words of RM(2,5)
-- without trying them one by one.
use Rattle.std.specs.Prelude.{◌≡◌, true, false, List, [], ◌∷◌, map, ℕ, ◌*◌, ◌^◌, ℤ, pos, negsuc}
use Rattle.words.specs.Kinds.{kinds}
use Rattle.words.specs.Distance.{distance}
use Rattle.decoding.specs.Quick.{hard, quick_word, quick_bits}
use Rattle.decoding.specs.Answer.{found, tied, answer}
use Rattle.decoding.specs.Examples.{sample}
use Rattle.sure.specs.Sure.{largest, doubt, SurelyRight}
use Rattle.sure.specs.Test.{is_sure}

-- 7 9 -6 -8 -9 2 8 -1
abbrev pub noisy : List ℤ
noisy = pos 7 ∷ pos 9 ∷ negsuc 5 ∷ negsuc 7 ∷ negsuc 8 ∷ pos 2 ∷ pos 8 ∷ negsuc 0 ∷ []

abbrev sent : List ℕ
sent = 0 ∷ 0 ∷ 1 ∷ 1 ∷ 1 ∷ 1 ∷ 0 ∷ 0 ∷ []

-- -1 1 1 1
abbrev pub one_error : List ℤ
one_error = negsuc 0 ∷ pos 1 ∷ pos 1 ∷ pos 1 ∷ []

pub record Examples : Type 0 where
  -- RM(1,3) with two readings against the word, one more than the textbook rule allows: with M = 9 the sum is 28, below 9 × 4 = 36
  pub noisy_errors : distance (map hard noisy) sent ≡ 2
  pub noisy-sum : doubt 9 noisy sent ≡ 28
  pub noisy_sure : is_sure 1 3 noisy sent ≡ true
  pub noisy_quick : quick_word 3 (kinds 1 3) noisy ≡ sent
  pub noisy_bits : quick_bits 3 (kinds 1 3) noisy ≡ 1 ∷ 1 ∷ 0 ∷ 0 ∷ []
  pub noisy-answer : answer 3 (kinds 1 3) noisy 35 ≡ found (1 ∷ 1 ∷ 0 ∷ 0 ∷ []) sent 3 10 21
  -- the bench's sample needs the search: with M = 5 the sum of its best word is 11, not below 5 × 2 = 10, though the quick reading is right
  pub sample-sum : doubt 5 sample (0 ∷ 1 ∷ 0 ∷ 1 ∷ []) ≡ 11
  pub sample_unsure : is_sure 1 2 sample (0 ∷ 1 ∷ 0 ∷ 1 ∷ []) ≡ false
  pub sample_quick : quick_word 2 (kinds 1 2) sample ≡ 0 ∷ 1 ∷ 0 ∷ 1 ∷ []
  -- as many errors as half the distance of RM(1,2): word 1010 has the sum 1 × 2 itself, the quick reading returns another word, and the search is tied
  pub bound_sum : doubt 1 one_error (1 ∷ 0 ∷ 1 ∷ 0 ∷ []) ≡ 1 * 2 ^ 1
  pub bound_unsure : is_sure 1 2 one_error (1 ∷ 0 ∷ 1 ∷ 0 ∷ []) ≡ false
  pub bound_quick : quick_word 2 (kinds 1 2) one_error ≡ 0 ∷ 0 ∷ 0 ∷ 0 ∷ []
  pub bound_tied : answer 2 (kinds 1 2) one_error 15 ≡ tied 1 9

-- ---- a real case: a word of RM(2,5) in noise of 0.62 times its size, clipped at that size
abbrev pub hull : List ℤ
hull =
    pos 100 ∷ negsuc 99 ∷ negsuc 0 ∷ negsuc 15 ∷ negsuc 42 ∷ negsuc 99 ∷ negsuc 99 ∷ negsuc 79 ∷
    negsuc 99 ∷ negsuc 96 ∷ negsuc 99 ∷ negsuc 67 ∷ pos 98 ∷ negsuc 99 ∷ pos 100 ∷ negsuc 99 ∷
    negsuc 7 ∷ pos 100 ∷ negsuc 99 ∷ negsuc 99 ∷ negsuc 99 ∷ pos 100 ∷ pos 100 ∷ negsuc 42 ∷
    negsuc 1 ∷ negsuc 99 ∷ negsuc 99 ∷ pos 43 ∷ negsuc 99 ∷ negsuc 99 ∷ negsuc 45 ∷ pos 100 ∷ []

abbrev pub hull_word : List ℕ
hull_word =
    0 ∷ 1 ∷ 0 ∷ 1 ∷ 1 ∷ 1 ∷ 1 ∷ 1 ∷ 1 ∷ 1 ∷ 1 ∷ 1 ∷ 0 ∷ 1 ∷ 0 ∷ 1 ∷
    0 ∷ 0 ∷ 1 ∷ 1 ∷ 1 ∷ 0 ∷ 0 ∷ 1 ∷ 0 ∷ 1 ∷ 1 ∷ 0 ∷ 1 ∷ 1 ∷ 0 ∷ 0 ∷ []

abbrev pub hull_bits : List ℕ
hull_bits = 1 ∷ 0 ∷ 1 ∷ 1 ∷ 1 ∷ 0 ∷ 0 ∷ 1 ∷ 1 ∷ 0 ∷ 1 ∷ 0 ∷ 0 ∷ 1 ∷ 0 ∷ 0 ∷ []

-- four readings are against the word, as many as half the distance; the largest size is 100, and the sum 769 is below 100 × 8
pub record Hull : Type 0 where
  pub errors : distance (map hard hull) hull_word ≡ 4
  pub largest-is : largest hull ≡ 100
  pub sum_is : doubt 100 hull hull_word ≡ 769
  pub right : SurelyRight 100 2 5 (kinds 2 5) hull hull_word hull_bits
