-- The range of readings, by what the search reports: 32,767 is accepted with either sign, -32,768 is refused as 4 at its place.
use Rattle.std.specs.Prelude.{◌≡◌, refl, [], ◌∷◌, ℕ, pos, negsuc}
use Rattle.numbers.specs.Sums.{total, tabulate, sum}
use Rattle.numbers.specs.Least.{least, without, next, first_with}
use Rattle.words.specs.Bits.{digit, ones}
use Rattle.words.specs.Word.{transform}
use Rattle.words.specs.Kinds.{kind, kinds, choose, dimension, all_bits}
use Rattle.decoding.specs.Readings.{penalty}
use Rattle.decoding.specs.Best.{penalties, least_penalty, gap, best_bits, best_word}
use Rattle.decoding.specs.Walk.{value, walk, walked}
use Rattle.decoding.specs.Answer.{answer}
use Rattle.code.specs.Sound.{made}
use Rattle.code.specs.Entries.{first_above}
use Rattle.code.specs.Admitted.{admitted_for}
use Rattle.search.specs.Outcome.{searching}

pub record LargestReadings : Type 0 where
  pub most_taken : (a b : ℕ) → (searching 0 0 2 (pos 32767 ∷ []) (a ∷ []) (b ∷ [])).gap ≡ 32767
  pub least_taken : (a b : ℕ) → (searching 0 0 2 (negsuc 32766 ∷ []) (a ∷ []) (b ∷ [])).gap ≡ 32767
  pub below-refused : (a b c : ℕ) → (searching 0 1 4 (pos 32767 ∷ negsuc 32767 ∷ []) (a ∷ []) (b ∷ c ∷ [])).number ≡ 4
  pub below_place : (a b c : ℕ) → (searching 0 1 4 (pos 32767 ∷ negsuc 32767 ∷ []) (a ∷ []) (b ∷ c ∷ [])).place ≡ 1

pub largest_readings : LargestReadings
unfolding kinds kind ones digit tabulate total sum dimension choose transform all_bits penalty penalties least_penalty gap best_bits best_word
    least without next first_with value walk walked answer made first_above admitted_for searching
largest_readings = record { most_taken = λ a b. refl; least_taken = λ a b. refl; below-refused = λ a b c. refl; below_place = λ a b c. refl }
