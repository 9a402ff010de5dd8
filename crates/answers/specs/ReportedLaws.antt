-- An export reports the outcome of the call that it makes.
use Rattle.std.specs.Prelude.{◌≡◌, refl, List, [], ◌∷◌, ℕ, length, Result, Ok, Err}
use Rattle.std.proofs.Common.{ap, ap₂, ◌∙◌}
use Rattle.code.specs.Sound.{completed}
use Rattle.encode.specs.Outcome as Encode
use Rattle.quick.specs.Outcome as Quick
use Rattle.record.specs.Reader as Reader
use Rattle.search.specs.declared.WithRunnerUp.{WithRunnerUp}
use Rattle.search.specs.Outcome as Search
use Rattle.search.specs.RunnerUp.{RunnerUpOutcome, runner_up_outcome_of}
use Rattle.answers.specs.Reported.{numbers, reported, shown, shown_quick, shown_search, shown_with_runner_up, shown_part}
use Rattle.answers.specs.Answers.{header_number, header_numbers}
use Rattle.answers.specs.Answers.{read_number, read_numbers, searched_number, searched_numbers}
use Rattle.code.specs.declared.Code.{Code}
use Rattle.code.specs.declared.Refusal.{Refusal}
use Rattle.search.specs.declared.Found.{Found}

abbrev beside : Search.Outcome → List ℕ → RunnerUpOutcome
beside o x = record { outcome = o; runner_up = x }

-- what an answer reports, by its variant
pub handed : {A : Type 0} (number : A → ℕ) (numbers_of : A → List ℕ) (answer a : A) (returned : ℕ) (out : List ℕ) → answer ≡ a
    → returned ≡ number a → out ≡ numbers_of a → (returned ≡ number answer) × (out ≡ numbers_of answer)
handed number numbers_of answer a returned out e f g = (rw e f, rw e g)

by_encoded : (answer : Result (Unit {0}) Refusal) (buffer : List ℕ)
    → reported (completed answer).number (numbers 0 0 0 (completed answer).place) (buffer ∷ []) ≡ shown (Encode.outcome_of answer buffer)
by_encoded (Ok _) buffer = refl
by_encoded (Err why) buffer = refl

pub reported-encoded : (answer : Result (Unit {0}) Refusal) (buffer : List ℕ) (o : Encode.Outcome) (returned : ℕ) (out : List ℕ)
    → Encode.outcome_of answer buffer ≡ o → returned ≡ (completed answer).number → out ≡ numbers 0 0 0 (completed answer).place
    → reported returned out (buffer ∷ []) ≡ shown o
reported-encoded answer buffer o returned out e f g =
    ap₂ (λ (n : ℕ) (l : List ℕ). reported n l (buffer ∷ [])) f g ∙ by_encoded answer buffer ∙ ap shown e

by_read : (answer : Result ℕ Refusal) (bits word : List ℕ)
    → reported (read_number answer) (read_numbers answer) (bits ∷ word ∷ []) ≡ shown_quick (Quick.outcome_of answer bits word)
by_read (Ok penalty) bits word = refl
by_read (Err why) bits word = refl

pub reported-read : (answer : Result ℕ Refusal) (bits word : List ℕ) (o : Quick.Outcome) (returned : ℕ) (out : List ℕ)
    → Quick.outcome_of answer bits word ≡ o → returned ≡ read_number answer → out ≡ read_numbers answer
    → reported returned out (bits ∷ word ∷ []) ≡ shown_quick o
reported-read answer bits word o returned out e f g =
    ap₂ (λ (n : ℕ) (l : List ℕ). reported n l (bits ∷ word ∷ [])) f g ∙ by_read answer bits word ∙ ap shown_quick e

by_answer_lem : (answer : Result Found Refusal) (bits word : List ℕ)
    → reported (searched_number answer) (searched_numbers answer) (bits ∷ word ∷ []) ≡ shown_search (Search.outcome_of answer bits word)
by_answer_lem (Ok found) bits word = refl
by_answer_lem (Err why) bits word = refl

pub reported-searched : (answer : Result Found Refusal) (bits word : List ℕ) (o : Search.Outcome) (returned : ℕ) (out : List ℕ)
    → Search.outcome_of answer bits word ≡ o → returned ≡ searched_number answer → out ≡ searched_numbers answer → reported returned out (bits ∷ word ∷ []) ≡
    shown_search o
reported-searched answer bits word o returned out e f g =
    ap₂ (λ (n : ℕ) (l : List ℕ). reported n l (bits ∷ word ∷ [])) f g ∙ by_answer_lem answer bits word ∙ ap shown_search e

-- and with the runner-up
by_runner_up : (answer : Result Found Refusal) (bits word shown : List ℕ)
    → reported (searched_number answer) (searched_numbers answer) (bits ∷ word ∷ shown ∷ []) ≡
    shown_with_runner_up (beside (Search.outcome_of answer bits word) shown)
by_runner_up (Ok found) bits word shown = refl
by_runner_up (Err why) bits word shown = refl

pub reported-runner_up : (answer : WithRunnerUp) (bits word shown : List ℕ) (o : RunnerUpOutcome) (returned : ℕ) (out : List ℕ)
    → runner_up_outcome_of answer bits word ≡ o → returned ≡ searched_number answer.result → out ≡ searched_numbers answer.result → shown ≡ answer.runner_up
    → reported returned out (bits ∷ word ∷ shown ∷ []) ≡ shown_with_runner_up o
reported-runner_up answer bits word shown o returned out e f g h =
    ap₂ (λ (n : ℕ) (l : List ℕ). reported n l (bits ∷ word ∷ shown ∷ [])) f g ∙ by_runner_up answer.result bits word shown
    ∙ ap shown_with_runner_up (ap (beside (Search.outcome_of answer.result bits word)) h ∙ e)

-- a header that reports what the bytes' header does, and their packed part
pub reported-part : (answer header : Result Code Refusal) (given part out : List ℕ) (returned : ℕ) → Reader.outcome_of answer ≡ Reader.outcome_of header
    → given ≡ part
    → returned ≡ header_number answer → out ≡ header_numbers answer (length given) → reported returned out [] ≡ shown_part header part
reported-part answer header given part out returned e f n o =
    cc (
      o,
      ap length f,
      n,
      ap (λ (t : Reader.HeaderOutcome). t.carry.number) e,
      ap (λ (t : Reader.HeaderOutcome). t.carry.place) e,
      ap (λ (t : Reader.HeaderOutcome). t.r) e,
      ap (λ (t : Reader.HeaderOutcome). t.m) e,
    )
