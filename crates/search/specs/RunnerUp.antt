-- The search's answer with the runner-up (docs/RULES.md, §5): its outcome, and beside it the second full path that is held when the written walk
-- ends.
use Rattle.std.specs.Prelude.{cond, List, [], ◌++◌, ℕ, ◌-◌, ℤ, length, replicate, eqb, Result}
use Rattle.words.specs.Kinds.{kinds, pick}
use Rattle.decoding.specs.Walk.{Held, none, one, two, walked}
use Rattle.decoding.specs.Answer.{answer}
use Rattle.search.specs.declared.WithRunnerUp.{WithRunnerUp}
use Rattle.search.specs.Outcome.{Outcome, outcome_of, by_answer, searching}
use Rattle.code.specs.declared.Refusal.{Refusal}
use Rattle.search.specs.declared.Found.{Found}

-- the second full path held: none if fewer than two are held
abbrev pub second_held : Held → List ℕ
second_held none = []
second_held (one a) = []
second_held (two a b) = b.path

-- 256 bytes: the bits, and zeros past the last of them
abbrev pub roomy : List ℕ → List ℕ
roomy b = b ++ replicate (256 - length b) 0

-- the information bits of the second full path that the written walk holds at its end
unfoldable pub runner_up : ℕ → List ℕ → List ℤ → List ℕ
runner_up m ks l = roomy (pick ks (second_held (walked m ks l).held))

pub record RunnerUpOutcome : Type 0 where
  -- numbers and lent buffers
  pub outcome : Outcome
  -- the 256 bytes of the answer
  pub runner_up : List ℕ

-- the runner-up x is shown on success only: zeros under every refusal
abbrev pub shown_with : List ℕ → Outcome → RunnerUpOutcome
shown_with x o = record { outcome = o; runner_up = cond (eqb o.number 0) x (replicate 256 0) }

-- the answer in the rules' numbers
abbrev pub runner_up_outcome_of : WithRunnerUp → List ℕ → List ℕ → RunnerUpOutcome
runner_up_outcome_of a bits word = record { outcome = outcome_of a.result bits word; runner_up = a.runner_up }

-- a result with no runner-up
abbrev pub with_none : Result Found Refusal → WithRunnerUp
with_none a = record { result = a; runner_up = replicate 256 0 }

-- if tests 1 to 4 refuse nothing, over the words of any row of kinds: by the answer
abbrev pub runner_up_outcome_by : ℕ → List ℕ → List ℤ → ℕ → List ℕ → List ℕ → RunnerUpOutcome
runner_up_outcome_by m ks l allowed bits word = shown_with (runner_up m ks l) (by_answer allowed bits word (answer m ks l allowed))

-- from r, m, the allowance, the readings, and the buffers for the information bits and the word
abbrev pub searching_with_runner_up : ℕ → ℕ → ℕ → List ℤ → List ℕ → List ℕ → RunnerUpOutcome
searching_with_runner_up r m allowed l bits word = shown_with (runner_up m (kinds r m) l) (searching r m allowed l bits word)
