-- No second answer and no second contents of the lent buffer meet a writer's promise.
use Rattle.std.specs.Prelude.{◌≡◌, refl, List, ℕ, Result, Ok, Err}
use Rattle.std.proofs.Common.{ap, sym, ◌∙◌, arith}
use Rattle.guarded.specs.FaultLaws.{fault_above, fault_only}
use Rattle.guarded.specs.Written.{WriteOutcome, written_outcome_of}
use Rattle.guarded.specs.declared.Fault.{Fault}

same_written : (a b : Result (Unit {0}) Fault) (x y : List ℕ) → written_outcome_of a x ≡ written_outcome_of b y → a ≡ b
same_written (Ok _) (Ok _) x y e = refl
same_written (Ok _) (Err why) x y e = absurd (omega (arith, ap (λ (o : WriteOutcome). o.carry.number) e, fault_above why))
same_written (Err why) (Ok _) x y e = absurd (omega (arith, ap (λ (o : WriteOutcome). o.carry.number) e, fault_above why))
same_written (Err why) (Err why') x y e = ap Err (fault_only why why' (ap (λ (o : WriteOutcome). o.carry) e))

outcome_word : (a : Result (Unit {0}) Fault) (x : List ℕ) → (written_outcome_of a x).word ≡ x
outcome_word (Ok _) x = refl
outcome_word (Err why) x = refl

-- for any promised outcome
pub write_only : (o : WriteOutcome) (a b : Result (Unit {0}) Fault) (x y : List ℕ) → written_outcome_of a x ≡ o → written_outcome_of b y ≡ o → (a ≡ b) × (x ≡ y)
write_only o a b x y e f =
    let same : written_outcome_of a x ≡ written_outcome_of b y = e ∙ sym f in
    (same_written a b x y same, sym (outcome_word a x) ∙ ap (λ (p : WriteOutcome). p.word) same ∙ outcome_word b y)
