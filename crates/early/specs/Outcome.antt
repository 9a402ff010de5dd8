-- What `early_within` reports and leaves, for every input (docs/RULES.md, §10): the quick reading if the test passes, else
-- what the search gives.
use Rattle.std.specs.Prelude.{cond, List, ℕ, ℤ, length, eqb, Result, Ok, Err}
use Rattle.words.specs.Kinds.{kinds}
use Rattle.decoding.specs.Quick.{quick_word, quick_bits, quick_penalty}
use Rattle.decoding.specs.Answer.{answer}
use Rattle.sure.specs.Test.{passes}
use Rattle.code.specs.declared.Code.{Code}
use Rattle.code.specs.Admitted.{admitted, after_test}
use Rattle.search.specs.Outcome.{Outcome, found_with, refused, by_answer}
use Rattle.search.specs.Outcome as Search
use Rattle.code.specs.declared.Refusal.{Refusal}
use Rattle.search.specs.declared.Found.{Found}

-- the answer as a search's, without gap and visits
abbrev pub as_searched : Result ℕ Refusal → Result Found Refusal
as_searched (Ok penalty) = Ok (record { penalty = penalty; gap = 0; visits = 0 })
as_searched (Err why) = Err why

-- the answer in the rules' numbers
abbrev pub outcome_of : Result ℕ Refusal → List ℕ → List ℕ → Outcome
outcome_of a bits word = Search.outcome_of (as_searched a) bits word

-- a search's outcome: on success only word, bits and penalty
abbrev pub word_only : Outcome → Outcome
word_only o = cond (eqb o.number 0) (found_with o.penalty 0 0 o.bits o.word) o

-- if tests 1 to 4 refuse nothing: the quick reading if the test passes, else by the search
abbrev pub early_by : Code → ℕ → List ℤ → List ℕ → List ℕ → Outcome
early_by c allowed l bits word =
    let ks = kinds c.r c.m in
    cond (passes c.r c.m ks l)
    (found_with (quick_penalty c.m ks l) 0 0 (quick_bits c.m ks l) (quick_word c.m ks l))
    (word_only (by_answer allowed bits word (answer c.m ks l allowed)))

-- from r, m, the allowance, the readings, and the buffers for the information bits and the word
unfoldable pub answering : ℕ → ℕ → ℕ → List ℤ → List ℕ → List ℕ → Outcome
answering r m allowed l bits word =
    after_test (admitted r m l (length bits) (length word)) (λ why. refused why bits word) (λ c. early_by c allowed l bits word)
