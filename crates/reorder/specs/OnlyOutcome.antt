-- No second answer and no second contents of what is lent meet the promise of a call: the rules' numbers tell every answer apart.
use Rattle.std.specs.Prelude.{◌≡◌, Result}
use Rattle.std.proofs.Common.{ap, sym, ◌∙◌}
use Rattle.code.specs.RefusalLaws.{completed_only}
use Rattle.reorder.specs.Outcome.{Outcome, outcome_of}
use Rattle.code.specs.declared.Refusal.{Refusal}

-- for any promised outcome
pub reorder_only : {B : Type 0} (o : Outcome B) (a b : Result (Unit {0}) Refusal) (x y : B) → outcome_of a x ≡ o → outcome_of b y ≡ o → (a ≡ b) × (x ≡ y)
reorder_only {B} o a b x y e f =
    let same : outcome_of a x ≡ outcome_of b y = e ∙ sym f in
    (completed_only a b (ap (λ (p : Outcome B). p.carry) same), ap (λ (p : Outcome B). p.lent) same)
