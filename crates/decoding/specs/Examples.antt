-- Examples that show why the rules are as they are, computed from the definitions, as one statement.
use Rattle.std.specs.Prelude.{◌≡◌, List, [], ◌∷◌, ℕ, ◌^◌, ℤ, pos, negsuc, length}
use Rattle.words.specs.Kinds.{kinds, encoded, Word}
use Rattle.decoding.specs.Readings.{turns}
use Rattle.decoding.specs.Quick.{lower, upper, quick_word, quick_bits, quick_penalty}
use Rattle.decoding.specs.Walk.{Full, value, two, start, walk, walked, needed}
use Rattle.decoding.specs.Answer.{found, out_of_visits, answer}

-- 5, -2, 3, 1
abbrev pub sample : List ℤ
sample = pos 5 ∷ negsuc 1 ∷ pos 3 ∷ pos 1 ∷ []

-- 0 -2 -1 1 -1 0 0 0
abbrev pub zero_met : List ℤ
zero_met = pos 0 ∷ negsuc 1 ∷ negsuc 0 ∷ pos 1 ∷ negsuc 0 ∷ pos 0 ∷ pos 0 ∷ pos 0 ∷ []

-- 1 1 0 -1 0 0 1 0
abbrev pub pair_first : List ℤ
pair_first = pos 1 ∷ pos 1 ∷ pos 0 ∷ negsuc 0 ∷ pos 0 ∷ pos 0 ∷ pos 1 ∷ pos 0 ∷ []

-- 0 0 0 -1 1 1 1 0
abbrev pub quick_misses : List ℤ
quick_misses = pos 0 ∷ pos 0 ∷ pos 0 ∷ negsuc 0 ∷ pos 1 ∷ pos 1 ∷ pos 1 ∷ pos 0 ∷ []

abbrev full : List ℕ → ℕ → Full
full u p = record { path = u; penalty = p }

pub record Examples : Type 0 where
  -- halves 3 and -1 combine to -1; -4 and -6 to 4; 0 and -6 to 0; with L' = 5, L'' = 3: 8 for a = 0, -2 for a = 1
  pub lower_differ : lower (pos 3) (negsuc 0) ≡ negsuc 0
  pub lower_same : lower (negsuc 3) (negsuc 5) ≡ pos 4
  pub lower-zero : lower (pos 0) (negsuc 5) ≡ pos 0
  pub upper_added : upper (pos 5) (pos 3) 0 ≡ pos 8
  pub upper_taken : upper (pos 5) (pos 3) 1 ≡ negsuc 1
  -- the sample, which allowance 9 answers, with 8
  pub out_12 : answer 2 (kinds 1 2) sample 8 ≡ out_of_visits
  -- L' - L'' for L'' - L' would give word 01
  pub halves_11 : answer 1 (kinds 1 1) (negsuc 0 ∷ pos 1 ∷ []) 6 ≡ found (1 ∷ 0 ∷ []) (1 ∷ 0 ∷ []) 0 1 6
  pub quick_11 : quick_word 1 (kinds 1 1) (negsuc 0 ∷ pos 1 ∷ []) ≡ 1 ∷ 0 ∷ []
  -- dropping against the best, 1, and not the second, 10, would miss the path of penalty 2
  pub before-second : (walk 2 sample (1 ∷ []) (0 ∷ 0 ∷ 1 ∷ []) 1 start).held ≡ two (full (0 ∷ 0 ∷ 1 ∷ 1 ∷ []) 1) (full (0 ∷ 0 ∷ 1 ∷ 0 ∷ []) 10)
  pub second_12 : (walked 2 (kinds 1 2) sample).held ≡ two (full (0 ∷ 0 ∷ 1 ∷ 1 ∷ []) 1) (full (0 ∷ 0 ∷ 0 ∷ 0 ∷ []) 2)
  -- demand 3's premise is needed: 25 visits, and 21 with the readings negated by word 11001100
  pub word-turned : encoded 3 (kinds 1 3) (0 ∷ 1 ∷ 0 ∷ 0 ∷ []) ≡ 1 ∷ 1 ∷ 0 ∷ 0 ∷ 1 ∷ 1 ∷ 0 ∷ 0 ∷ []
  pub visits_25 : needed 3 (kinds 1 3) zero_met ≡ 25
  pub visits_21 : needed 3 (kinds 1 3) (turns (1 ∷ 1 ∷ 0 ∷ 0 ∷ 1 ∷ 1 ∷ 0 ∷ 0 ∷ []) zero_met) ≡ 21
  pub value-zero : value 3 zero_met (0 ∷ 0 ∷ 0 ∷ []) ≡ pos 0
  -- a better word after the first equal pair: when everything below the first bit at index 3 is done, penalties 1 and 1 are held; the walk ends with 0 and 1
  pub equal_pair : (walk 3 pair_first (0 ∷ 1 ∷ 1 ∷ 1 ∷ []) (0 ∷ 0 ∷ 0 ∷ 0 ∷ []) 0 start).held
      ≡ two (full (0 ∷ 0 ∷ 0 ∷ 0 ∷ 0 ∷ 0 ∷ 0 ∷ 0 ∷ []) 1) (full (0 ∷ 0 ∷ 0 ∷ 0 ∷ 0 ∷ 0 ∷ 1 ∷ 1 ∷ []) 1)
  pub then_better : (walked 3 (kinds 1 3) pair_first).held ≡ two (full (0 ∷ 0 ∷ 0 ∷ 1 ∷ 0 ∷ 1 ∷ 0 ∷ 0 ∷ []) 0) (full (0 ∷ 0 ∷ 0 ∷ 0 ∷ 0 ∷ 0 ∷ 0 ∷ 0 ∷ []) 1)
  pub answer_better : answer 3 (kinds 1 3) pair_first 21 ≡ found (1 ∷ 1 ∷ 0 ∷ 0 ∷ []) (0 ∷ 0 ∷ 1 ∷ 1 ∷ 1 ∷ 1 ∷ 0 ∷ 0 ∷ []) 0 1 21
  -- the quick reading may miss the best word
  pub quick_bits_lem : quick_bits 3 (kinds 1 3) quick_misses ≡ 0 ∷ 0 ∷ 0 ∷ 0 ∷ []
  pub quick-word : quick_word 3 (kinds 1 3) quick_misses ≡ 0 ∷ 0 ∷ 0 ∷ 0 ∷ 0 ∷ 0 ∷ 0 ∷ 0 ∷ []
  pub quick_penalty_lem : quick_penalty 3 (kinds 1 3) quick_misses ≡ 1
  pub best_missed : answer 3 (kinds 1 3) quick_misses 21 ≡ found (1 ∷ 0 ∷ 0 ∷ 0 ∷ []) (1 ∷ 1 ∷ 1 ∷ 1 ∷ 0 ∷ 0 ∷ 0 ∷ 0 ∷ []) 0 1 21

-- ---- a slip that is refuted: equal visits without demand 3's premise
abbrev pub EqualVisits : Type 0
EqualVisits = (r m : ℕ) (l : List ℤ) (c : List ℕ) → length l ≡ 2 ^ m → Word m (kinds r m) c → needed m (kinds r m) (turns c l) ≡ needed m (kinds r m) l
