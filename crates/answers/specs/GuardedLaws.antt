-- The exports of guarded words report the outcomes of the calls that they make.
use Rattle.std.specs.Prelude.{◌≡◌, refl, List, [], ◌∷◌, ℕ, Result, Ok, Err}
use Rattle.std.proofs.Common.{ap, ap₂, ◌∙◌}
use Rattle.guarded.specs.declared.Fault.{Fault}
use Rattle.guarded.specs.Faults.{fault_carries}
use Rattle.guarded.specs.Written.{WriteOutcome, written_outcome_of}
use Rattle.telegram.specs.declared.Telegram.{Telegram}
use Rattle.telegram.specs.declared.Heard.{Heard}
use Rattle.telegram.specs.Outcome as Tilt
use Rattle.rod.specs.declared.Heard as RodHeard
use Rattle.rod.specs.Outcome as Rod
use Rattle.answers.specs.Reported.{reported, numbers}
use Rattle.answers.specs.Guarded.{written_number, shown_written, fields, shown_read, shown_rod}

by_written : (answer : Result (Unit {0}) Fault) (word : List ℕ)
    → reported (written_number answer) (numbers 0 0 0 0) (word ∷ []) ≡ shown_written (written_outcome_of answer word)
by_written (Ok _) word = refl
by_written (Err why) word = refl

pub reported-written : (answer : Result (Unit {0}) Fault) (word : List ℕ) (o : WriteOutcome) (returned : ℕ) (out : List ℕ)
    → written_outcome_of answer word ≡ o → returned ≡ written_number answer → out ≡ numbers 0 0 0 0 → reported returned out (word ∷ []) ≡ shown_written o
reported-written answer word o returned out e f g =
    ap₂ (λ (n : ℕ) (l : List ℕ). reported n l (word ∷ [])) f g ∙ by_written answer word ∙ ap shown_written e

-- the two answers of a telegram's reader
module _ (answer : Result Heard Fault) where
  pub reported-shown : (t : Telegram) (p g v : ℕ) (out telegram : List ℕ)
      → answer ≡ Ok (record { telegram = t; found = record { penalty = p; gap = g; visits = v } })
      → out ≡ numbers p g v 0 → telegram ≡ fields t
      → reported 0 out (telegram ∷ []) ≡ shown_read (Tilt.outcome_of answer)
  reported-shown t p g v out telegram e f h = rw (e, f, h)

  pub reported-unread : (why : Fault) (number penalty visits place : ℕ) (out : List ℕ) → answer ≡ Err why → number ≡ (fault_carries why).number
      → penalty ≡ (fault_carries why).penalty → visits ≡ (fault_carries why).visits → place ≡ (fault_carries why).place → out ≡ numbers penalty 0 visits place
      → reported number out ((0 ∷ 0 ∷ 0 ∷ []) ∷ []) ≡ shown_read (Tilt.outcome_of answer)
  reported-unread why number penalty visits place out e n p v a f = rw (e, f, n, p, v, a)

-- and of the rod's
module _ (answer : Result RodHeard.Heard Fault) where
  pub reported_position : (n p g : ℕ) (out : List ℕ) → answer ≡ Ok (record { position = n; penalty = p; gap = g }) → out ≡ numbers p g 0 0
      → reported 0 out ((n ∷ []) ∷ []) ≡ shown_rod (Rod.outcome_of answer)
  reported_position n p g out e f = rw (e, f)

  pub reported-none : (why : Fault) (number penalty visits place : ℕ) (out : List ℕ) → answer ≡ Err why → number ≡ (fault_carries why).number
      → penalty ≡ (fault_carries why).penalty → visits ≡ (fault_carries why).visits → place ≡ (fault_carries why).place → out ≡ numbers penalty 0 visits place
      → reported number out ((0 ∷ []) ∷ []) ≡ shown_rod (Rod.outcome_of answer)
  reported-none why number penalty visits place out e n p v a f = rw (e, f, n, p, v, a)
