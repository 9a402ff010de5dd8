-- What the search of a record reports and leaves, for every input: a record checks 1, 8, 9, then 3, 6 and 7.
use Rattle.std.specs.Prelude.{List, [], ℕ, Result, Ok, Err}
use Rattle.words.specs.Kinds.{kinds}
use Rattle.search.specs.Outcome.{Outcome, outcome_of, searching}
use Rattle.search.specs.RunnerUp.{RunnerUpOutcome, runner_up, shown_with}
use Rattle.record.specs.Reader.{header_of, readings_of}
use Rattle.code.specs.declared.Code.{Code}
use Rattle.code.specs.declared.Refusal.{Refusal}

-- 1, 8 and 9 leave the lent buffers as they were; the rest is the search of the record's readings, whose length is never wrong
abbrev pub searching_by : Result Code Refusal → ℕ → List ℕ → List ℕ → List ℕ → Outcome
searching_by (Err why) allowed s bits word = outcome_of (Err why) bits word
searching_by (Ok c) allowed s bits word = searching c.r c.m allowed (readings_of c s) bits word

unfoldable pub searching_record : ℕ → List ℕ → List ℕ → List ℕ → Outcome
searching_record allowed s bits word = searching_by (header_of s) allowed s bits word

-- ---- and the runner-up of that search, which no refusal shows
abbrev pub runner_up_by : Result Code Refusal → List ℕ → List ℕ
runner_up_by (Err why) s = []
runner_up_by (Ok c) s = runner_up c.m (kinds c.r c.m) (readings_of c s)

abbrev pub searching_with_runner_up_by : Result Code Refusal → ℕ → List ℕ → List ℕ → List ℕ → RunnerUpOutcome
searching_with_runner_up_by h allowed s bits word = shown_with (runner_up_by h s) (searching_by h allowed s bits word)

abbrev pub searching_record_with_runner_up : ℕ → List ℕ → List ℕ → List ℕ → RunnerUpOutcome
searching_record_with_runner_up allowed s bits word = shown_with (runner_up_by (header_of s) s) (searching_record allowed s bits word)
