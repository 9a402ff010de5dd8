-- No second answer and no second contents of the lent buffers meet the promise of `early_within`.
use Rattle.std.specs.Prelude.{◌≡◌, List, ℕ, Result}
use Rattle.std.proofs.Common.{ap, sym, ◌∙◌}
use Rattle.search.specs.Outcome.{Outcome}
use Rattle.search.specs.OnlyOutcome.{search_only}
use Rattle.early.specs.Outcome.{as_searched, outcome_of}
use Rattle.early.specs.OutcomeLaws.{penalty_only}
use Rattle.early.proofs.OutcomeLaws.{penalty_only-again}
use Rattle.code.specs.declared.Refusal.{Refusal}

-- for any promised outcome
pub early_only : (o : Outcome) (a a' : Result ℕ Refusal) (bits word bits' word' : List ℕ) → outcome_of a bits word ≡ o → outcome_of a' bits' word' ≡ o
    → (a ≡ a') × (bits ≡ bits') × (word ≡ word')
early_only o a a' bits word bits' word' e f =
    let same = search_only o (as_searched a) (as_searched a') bits word bits' word' e f in (
      sym (penalty_only-again a) ∙ ap penalty_only same.0 ∙ penalty_only-again a',
      same.1,
      same.2,
    )
