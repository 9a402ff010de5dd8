-- Examples, computed from the definitions: words of RM(1,3) with their places, and the sample row of RM(1,2), of penalty 1 and gap 1.
use Rattle.std.specs.Prelude.{◌≡◌, refl, [], ◌∷◌, ℕ, zero, suc, ◌≤◌, pos, negsuc, nat_abs, get_or}
use Rattle.std.proofs.Common.{arith}
use Rattle.numbers.specs.Sums.{tabulate}
use Rattle.words.specs.Bits.{digit, digits, ones}
use Rattle.words.specs.Word.{transform}
use Rattle.words.specs.Kinds.{kind, kinds, encoded}
use Rattle.decoding.specs.Readings.{sizes}
use Rattle.decoding.specs.Answer.{found, tied}
use Rattle.decoding.specs.Examples.{sample}
use Rattle.hadamard.specs.Hadamard.{hadamard, common, first_order, bits_of, LargestTwo, by_place}

pub record Examples : Type 0 where
  -- bits 0001 give the row of ones, place 0 with bit 1; bits 1000 give 11110000, place 4 with bit 1
  pub ones_bits : bits_of 3 0 1 ≡ 0 ∷ 0 ∷ 0 ∷ 1 ∷ []
  pub ones-word : encoded 3 (kinds 1 3) (0 ∷ 0 ∷ 0 ∷ 1 ∷ []) ≡ first_order 3 0 1
  pub half_bits : bits_of 3 4 1 ≡ 1 ∷ 0 ∷ 0 ∷ 0 ∷ []
  pub half_word : first_order 3 4 1 ≡ 1 ∷ 1 ∷ 1 ∷ 1 ∷ 0 ∷ 0 ∷ 0 ∷ 0 ∷ []
  -- the sample 5 -2 3 1: the largest size is 9 at place 1, the next 7 at place 0
  pub sample-row : hadamard 2 sample ≡ pos 7 ∷ pos 9 ∷ negsuc 0 ∷ pos 5 ∷ []
  pub sample-largest : LargestTwo (hadamard 2 sample) 1 9 7
  pub sample-answer : by_place 2 sample 1 9 7 9 ≡ found (0 ∷ 1 ∷ 1 ∷ []) (0 ∷ 1 ∷ 0 ∷ 1 ∷ []) 1 1 9
  -- readings that are all 0: each entry is 0, and a tie
  pub zeros-answer : by_place 1 (pos 0 ∷ pos 0 ∷ []) 0 0 0 6 ≡ tied 0 6

others : (i : ℕ) → (i ≡ 1 → ⊥) → nat_abs (get_or (pos 7 ∷ pos 9 ∷ negsuc 0 ∷ pos 5 ∷ []) i (pos 0)) ≤ 7
others zero h = omega arith
others (suc zero) h = absurd (h refl)
others (suc (suc zero)) h = omega arith
others (suc (suc (suc zero))) h = omega arith
others (suc (suc (suc (suc i)))) h = omega arith

pub examples : Examples
unfolding hadamard common first_order digits bits_of sizes kinds kind digit ones tabulate transform
examples = record {
  ones_bits = refl;
  ones-word = refl;
  half_bits = refl;
  half_word = refl;
  sample-row = refl;
  sample-largest = record {
    within = omega arith;
    has = refl;
    most = omega arith;
    others = others;
    other = 0;
    other_within = omega arith;
    differs = λ e. omega arith;
    other_has = refl;
  };
  sample-answer = refl;
  zeros-answer = refl;
}
