-- The best word, its penalty and the gap, over the list of all 2^k words, without mentioning a search (docs/RULES.md, §3).
use Rattle.std.specs.Prelude.{◌≡◌, List, [], map, ℕ, ◌-◌, ℤ}
use Rattle.numbers.specs.Sums.{sum}
use Rattle.numbers.specs.Least.{least, next, first_with}
use Rattle.words.specs.Kinds.{encoded, all_bits, InformationBits}
use Rattle.decoding.specs.Readings.{penalty}

-- the penalty of the word of some information bits
abbrev pub penalty_of : ℕ → List ℕ → List ℤ → List ℕ → ℕ
penalty_of m ks l b = penalty l (encoded m ks b)

-- the penalties of all 2^k words, with repeats
unfoldable pub penalties : ℕ → List ℕ → List ℤ → List ℕ
penalties m ks l = map (penalty_of m ks l) (all_bits (sum ks))

unfoldable pub least_penalty : ℕ → List ℕ → List ℤ → ℕ
least_penalty m ks l = least (penalties m ks l)

-- the next penalty minus the least
unfoldable pub gap : ℕ → List ℕ → List ℤ → ℕ
gap m ks l = next (penalties m ks l) - least_penalty m ks l

-- the information bits of the first word with the least penalty, which is the only one if the gap is above 0
unfoldable pub best_bits : ℕ → List ℕ → List ℤ → List ℕ
best_bits m ks l = first_with (penalty_of m ks l) (least_penalty m ks l) [] (all_bits (sum ks))

unfoldable pub best_word : ℕ → List ℕ → List ℤ → List ℕ
best_word m ks l = encoded m ks (best_bits m ks l)

-- two different rows of k information bits whose words have the penalties p and q
pub record TwoWords (m : ℕ) (ks : List ℕ) (l : List ℤ) (p q : ℕ) : Type 0 where
  pub first : List ℕ
  pub second : List ℕ
  pub first_bits : InformationBits ks first
  pub second_bits : InformationBits ks second
  pub differ : first ≡ second → ⊥
  pub first-has : penalty_of m ks l first ≡ p
  pub second-has : penalty_of m ks l second ≡ q
