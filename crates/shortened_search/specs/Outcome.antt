-- What the search on a shortened set reports and leaves, for every input (docs/RULES.md, §15): refused as 1 or 12 by the row's tests, else as the
-- plain search does, over the words of the kinds that are left.
use Rattle.std.specs.Prelude.{List, ℕ, ℤ, length, Err}
use Rattle.numbers.specs.Sums.{sum}
use Rattle.code.specs.declared.Code.{Code}
use Rattle.code.specs.declared.Refusal.{Refusal}
use Rattle.code.specs.Admitted.{admitted_by, after_test}
use Rattle.named.specs.Named.{row_admitted}
use Rattle.search.specs.RunnerUp.{RunnerUpOutcome, runner_up_outcome_of, with_none, runner_up_outcome_by}
use Rattle.shortened.specs.Outcome.{left_of}

-- the buffers keep their contents, and no runner-up is shown
abbrev pub refused_with_none : Refusal → List ℕ → List ℕ → RunnerUpOutcome
refused_with_none why bits word = runner_up_outcome_of (with_none (Err why)) bits word

-- over the words of a row of kinds: there are as many information bits as indices that carry them
abbrev pub searching_over : List ℕ → Code → ℕ → List ℤ → List ℕ → List ℕ → RunnerUpOutcome
searching_over ks c allowed l bits word =
    after_test (admitted_by c (sum ks) l (length bits) (length word)) (λ why. refused_with_none why bits word)
    (λ d. runner_up_outcome_by d.m ks l allowed bits word)

-- from r, m, the allowance, the row, the readings, and the buffers for the information bits and the word
unfoldable pub searching_shortened : ℕ → ℕ → ℕ → List ℕ → List ℤ → List ℕ → List ℕ → RunnerUpOutcome
searching_shortened r m allowed named l bits word =
    after_test (row_admitted r m named) (λ why. refused_with_none why bits word) (λ c. searching_over (left_of named c) c allowed l bits word)
