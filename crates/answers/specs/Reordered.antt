-- What C sees of reordering, undo maps and products: the number returned, the numbers, and what was lent.
use Rattle.std.specs.Prelude.{◌≡◌, List, ℕ, Result}
use Rattle.std.proofs.Common.{ap, ap₂, ◌∙◌}
use Rattle.code.specs.Sound.{completed}
use Rattle.reorder.specs.Outcome.{Outcome, outcome_of}
use Rattle.answers.specs.Reported.{Report, reported, numbers}
use Rattle.code.specs.declared.Refusal.{Refusal}

abbrev pub shown_reordered : {B : Type 0} → Outcome B → Report B
shown_reordered o = reported o.carry.number (numbers 0 0 0 o.carry.place) o.lent

-- an export reports the outcome of the call that it makes
pub reported-reordered : {B : Type 0} (answer : Result (Unit {0}) Refusal) (lent : B) (o : Outcome B) (returned : ℕ) (out : List ℕ) → outcome_of answer lent ≡ o
    → returned ≡ (completed answer).number → out ≡ numbers 0 0 0 (completed answer).place → reported returned out lent ≡ shown_reordered o
reported-reordered answer lent o returned out e f g = ap₂ (λ (n : ℕ) (l : List ℕ). reported n l lent) f g ∙ ap shown_reordered e
