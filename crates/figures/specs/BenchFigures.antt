-- The rules' bench figures that are to be proved, as one statement: about the definitions, and about what the calls report and leave. A lent buffer
-- of the right length may hold anything.
use Rattle.std.specs.Prelude.{◌≡◌, refl, List, [], ◌∷◌, map, ℕ, pos, neg_ℤ}
use Rattle.numbers.specs.Sums.{total, tabulate, sum}
use Rattle.numbers.specs.Least.{least, without, next, first_with}
use Rattle.words.specs.Bits.{digit, ones}
use Rattle.words.specs.Word.{transform}
use Rattle.words.specs.Kinds.{kind, kinds, choose, dimension, all_bits}
use Rattle.words.specs.Inverse.{first_frozen_one, taken_back}
use Rattle.decoding.specs.Readings.{penalty, correlation}
use Rattle.decoding.specs.Best.{penalties, least_penalty, gap, best_bits, best_word}
use Rattle.decoding.specs.Walk.{value, walk, walked, tree}
use Rattle.decoding.specs.Answer.{answer}
use Rattle.decoding.specs.Examples.{sample}
use Rattle.code.specs.Sound.{made}
use Rattle.code.specs.Entries.{first_above}
use Rattle.code.specs.Admitted.{admitted_for}
use Rattle.encode.specs.Outcome.{tested, encoding, inverting}
use Rattle.encode.specs.Outcome as Encode
use Rattle.search.specs.Outcome.{searching}
use Rattle.search.specs.Outcome as Search

-- done, with this buffer; refused with this number and place
abbrev pub done : List ℕ → Encode.Outcome
done buffer = record { number = 0; place = 0; buffer = buffer }

abbrev pub refused : ℕ → ℕ → List ℕ → Encode.Outcome
refused number place buffer = record { number = number; place = place; buffer = buffer }

-- found: bits, word, penalty, gap, visits; refused with this number, penalty and visits
abbrev pub found : List ℕ → List ℕ → ℕ → ℕ → ℕ → Search.Outcome
found bits word penalty gap visits = record { number = 0; place = 0; penalty = penalty; gap = gap; visits = visits; bits = bits; word = word }

abbrev pub unfound : ℕ → ℕ → ℕ → List ℕ → List ℕ → Search.Outcome
unfound number penalty visits bits word = record { number = number; place = 0; penalty = penalty; gap = 0; visits = visits; bits = bits; word = word }

pub record BenchFigures : Type 0 where
  pub k_00 : dimension 0 0 ≡ 1
  pub k_12 : dimension 1 2 ≡ 3
  pub k_13 : dimension 1 3 ≡ 4
  pub k_25 : dimension 2 5 ≡ 16
  pub k_48 : dimension 4 8 ≡ 163
  -- RM(1,3): information indices 3, 5, 6, 7
  pub indices_13 : kinds 1 3 ≡ 0 ∷ 0 ∷ 0 ∷ 1 ∷ 0 ∷ 1 ∷ 1 ∷ 1 ∷ []
  pub word_12 : (a b c d : ℕ) → encoding 1 2 (0 ∷ 1 ∷ 1 ∷ []) (a ∷ b ∷ c ∷ d ∷ []) ≡ done (0 ∷ 1 ∷ 0 ∷ 1 ∷ [])
  pub word_13 : (a b c d e f g h : ℕ) → encoding 1 3 (0 ∷ 0 ∷ 0 ∷ 1 ∷ []) (a ∷ b ∷ c ∷ d ∷ e ∷ f ∷ g ∷ h ∷ [])
      ≡ done (1 ∷ 1 ∷ 1 ∷ 1 ∷ 1 ∷ 1 ∷ 1 ∷ 1 ∷ [])
  pub word_13' : (a b c d e f g h : ℕ) → encoding 1 3 (1 ∷ 0 ∷ 0 ∷ 0 ∷ []) (a ∷ b ∷ c ∷ d ∷ e ∷ f ∷ g ∷ h ∷ [])
      ≡ done (1 ∷ 1 ∷ 1 ∷ 1 ∷ 0 ∷ 0 ∷ 0 ∷ 0 ∷ [])
  -- word 1000 is refused as 5 at index 0
  pub refused_5 : (a b c : ℕ) → inverting 1 2 (1 ∷ 0 ∷ 0 ∷ 0 ∷ []) (a ∷ b ∷ c ∷ []) ≡ refused 5 0 (a ∷ b ∷ c ∷ [])
  -- bits 011, word 0101, penalty 1, gap 1, visits 9
  pub sample_12 : (a b c d e f g : ℕ) → searching 1 2 9 sample (a ∷ b ∷ c ∷ []) (d ∷ e ∷ f ∷ g ∷ [])
      ≡ found (0 ∷ 1 ∷ 1 ∷ []) (0 ∷ 1 ∷ 0 ∷ 1 ∷ []) 1 1 9
  pub zero-penalty : penalty sample (0 ∷ 0 ∷ 0 ∷ 0 ∷ []) ≡ 2
  pub zero-correlation : correlation sample (0 ∷ 0 ∷ 0 ∷ 0 ∷ []) ≡ pos 7
  -- the same negated: bits 010, word 1010, penalty 1, gap 1
  pub negated_12 : (a b c d e f g : ℕ) → searching 1 2 9 (map neg_ℤ sample) (a ∷ b ∷ c ∷ []) (d ∷ e ∷ f ∷ g ∷ [])
      ≡ found (0 ∷ 1 ∷ 0 ∷ []) (1 ∷ 0 ∷ 1 ∷ 0 ∷ []) 1 1 9
  pub reading_3 : (a b : ℕ) → searching 0 0 2 (pos 3 ∷ []) (a ∷ []) (b ∷ []) ≡ found (0 ∷ []) (0 ∷ []) 0 3 2
  -- refused 7, penalty 0, visits 2
  pub reading_0 : (a b : ℕ) → searching 0 0 2 (pos 0 ∷ []) (a ∷ []) (b ∷ []) ≡ unfound 7 0 2 (a ∷ []) (b ∷ [])
  pub tree_12 : tree (kinds 1 2) ≡ 15
  pub tree_13 : tree (kinds 1 3) ≡ 35

pub bench_figures : BenchFigures
unfolding kinds kind ones digit tabulate total sum dimension choose transform all_bits penalty correlation penalties least_penalty gap best_bits best_word
    least without next first_with value walk walked tree answer first_frozen_one taken_back made first_above admitted_for tested encoding inverting searching
bench_figures =
    record {
      k_00 = refl;
      k_12 = refl;
      k_13 = refl;
      k_25 = refl;
      k_48 = refl;
      indices_13 = refl;
      word_12 = λ a b c d. refl;
      word_13 = λ a b c d e f g h. refl;
      word_13' = λ a b c d e f g h. refl;
      refused_5 = λ a b c. refl;
      sample_12 = λ a b c d e f g. refl;
      zero-penalty = refl;
      zero-correlation = refl;
      negated_12 = λ a b c d e f g. refl;
      reading_3 = λ a b. refl;
      reading_0 = λ a b. refl;
      tree_12 = refl;
      tree_13 = refl;
    }
