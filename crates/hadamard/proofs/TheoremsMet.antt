-- The theorems on the transform hold.
use Rattle.std.specs.Prelude.{◌≡◌, List, ℕ, ◌*◌, ◌^◌, ◌%◌, ◌≤◌, ◌<◌, ℤ, length}
use Rattle.std.proofs.Common.{ap, sym, ◌∙◌, arith, le_refl, le_trans, mul-le-mul_left}
use Rattle.std.proofs.lemmas.List.{length-map}
use Rattle.numbers.specs.Sums.{sum}
use Rattle.words.specs.Kinds.{kinds, encoded, all_bits}
use Rattle.words.proofs.FillLaws.{length-all_bits}
use Rattle.decoding.specs.Readings.{correlation, sizes, Within}
use Rattle.decoding.specs.StepLaws.{sizes_within}
use Rattle.hadamard.specs.Hadamard.{hadamard, correlations, place_named}
use Rattle.hadamard.proofs.HadamardLaws.{length-hadamard, hadamard-combined, hadamard-twice, hadamard_within, sizes-combined}
use Rattle.hadamard.proofs.FirstOrderLaws.{correlation-word}
use Rattle.hadamard.proofs.EncodedLaws.{sum-first_order, place_within, place_word, word_place, word_once}
use Rattle.hadamard.proofs.AllWords.{all-correlations}
use Rattle.hadamard.specs.Theorems.{WordsAndEntries, TransformTheorems}

pub words_and_entries : (m : ℕ) (l : List ℤ) → length l ≡ 2 ^ m → WordsAndEntries m l
unfolding correlations
words_and_entries m l long = record {
  named = place_word m;
  has_place = λ x w.
      let small : sum w.bits % 2 < 2 = omega arith in
      (place_named m w.bits, sum w.bits % 2, place_within m w.bits w.are_bits, small, word_place m x w);
  once = word_once m;
  correlation-is = λ s e h g. correlation-word m s e l h g long;
  many = length-map (all_bits (sum (kinds 1 m))) (λ b. correlation l (encoded m (kinds 1 m) b)) ∙ length-all_bits (sum (kinds 1 m))
      ∙ ap (λ (k : ℕ). 2 ^ k) (sum-first_order m);
  each_once = all-correlations m l long;
}

range : (m largest : ℕ) (l : List ℤ) → length l ≡ 2 ^ m → Within largest l → sizes l ≤ 2 ^ m * largest
range m largest l long h = rw (sym long) (sizes_within largest l h)

pub transform_theorems : (m : ℕ) → TransformTheorems m
transform_theorems m = record {
  twice = hadamard-twice m;
  of_sum = hadamard-combined m 0;
  of_difference = hadamard-combined m 1;
  in_range = range m;
  twice_in_range = λ largest l long h.
      le_trans
      (range m (sizes l) (hadamard m l) (length-hadamard m l long) (hadamard_within m (sizes l) l (le_refl (sizes l))))
      (mul-le-mul_left (2 ^ m) (range m largest l long h));
  sum_in_range = sizes-combined 0;
  within_sizes = λ l. hadamard_within m (sizes l) l (le_refl (sizes l));
}
