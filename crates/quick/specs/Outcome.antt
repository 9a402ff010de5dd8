-- What `quick` reports and leaves, for every input, in the rules' numbers (docs/RULES.md, §6).
use Rattle.std.specs.Prelude.{List, ℕ, ℤ, length, Result, Ok, Err}
use Rattle.words.specs.Kinds.{kinds}
use Rattle.decoding.specs.Quick.{quick_word, quick_bits, quick_penalty}
use Rattle.code.specs.declared.Code.{Code}
use Rattle.code.specs.declared.Refusal.{Refusal}
use Rattle.code.specs.Sound.{carried}
use Rattle.code.specs.Admitted.{admitted, after_test}

pub record Outcome : Type 0 where
  -- 0 if the call is done, else the refusal's number
  pub number : ℕ
  -- the place that 4 carries, else 0
  pub place : ℕ
  -- the word's penalty, else 0
  pub penalty : ℕ
  -- the lent buffers as the call leaves them
  pub bits : List ℕ
  pub word : List ℕ

abbrev pub done : ℕ → List ℕ → List ℕ → Outcome
done penalty bits word = record { number = 0; place = 0; penalty = penalty; bits = bits; word = word }

-- the buffers keep their contents
abbrev pub refused : Refusal → List ℕ → List ℕ → Outcome
refused why bits word = let c = carried why in record { number = c.number; place = c.place; penalty = c.penalty; bits = bits; word = word }

-- the answer in the rules' numbers
abbrev pub outcome_of : Result ℕ Refusal → List ℕ → List ℕ → Outcome
outcome_of (Ok penalty) = done penalty
outcome_of (Err why) = refused why

-- the written steps over a row of kinds, and over a code's, if no test refuses
abbrev pub reading_over : ℕ → List ℕ → List ℤ → Outcome
reading_over m ks l = done (quick_penalty m ks l) (quick_bits m ks l) (quick_word m ks l)

abbrev pub reading_by : Code → List ℤ → Outcome
reading_by c l = reading_over c.m (kinds c.r c.m) l

-- from r, m, the readings, and the buffers for the information bits and the word
unfoldable pub quick_reading : ℕ → ℕ → List ℤ → List ℕ → List ℕ → Outcome
quick_reading r m l bits word = after_test (admitted r m l (length bits) (length word)) (λ why. refused why bits word) (λ c. reading_by c l)
