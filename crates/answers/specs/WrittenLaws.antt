-- The export reports the outcome of the writer.
use Rattle.std.specs.Prelude.{◌≡◌, refl, List, [], ◌∷◌, ℕ, Result, Ok, Err}
use Rattle.std.proofs.Common.{ap, ap₂, ◌∙◌}
use Rattle.record.specs.Writing as Writing
use Rattle.answers.specs.Reported.{reported}
use Rattle.answers.specs.Written.{shown_wrote, wrote_number, wrote_numbers}
use Rattle.code.specs.declared.Refusal.{Refusal}

by_wrote : (answer : Result ℕ Refusal) (buffer : List ℕ)
    → reported (wrote_number answer) (wrote_numbers answer) (buffer ∷ []) ≡ shown_wrote (Writing.outcome_of answer buffer)
by_wrote (Ok k) buffer = refl
by_wrote (Err why) buffer = refl

pub reported-wrote : (answer : Result ℕ Refusal) (buffer : List ℕ) (o : Writing.WrittenOutcome) (returned : ℕ) (out : List ℕ)
    → Writing.outcome_of answer buffer ≡ o → returned ≡ wrote_number answer → out ≡ wrote_numbers answer → reported returned out (buffer ∷ []) ≡ shown_wrote o
reported-wrote answer buffer o returned out e f g =
    ap₂ (λ (n : ℕ) (l : List ℕ). reported n l (buffer ∷ [])) f g ∙ by_wrote answer buffer ∙ ap shown_wrote e
