-- No second answer meets the reader's promise. The writer's is `write_only` of the crate guarded.
use Rattle.std.specs.Prelude.{◌≡◌, Result, Ok, Err}
use Rattle.std.proofs.Common.{ap, sym, ◌∙◌, arith}
use Rattle.guarded.specs.FaultLaws.{fault_above, fault_only}
use Rattle.rod.specs.declared.Heard.{Heard}
use Rattle.rod.specs.Outcome.{RodOutcome, outcome_of}
use Rattle.guarded.specs.declared.Fault.{Fault}

same_heard : (a b : Result Heard Fault) → outcome_of a ≡ outcome_of b → a ≡ b
same_heard (Ok _) (Ok _) e = ap (λ (o : RodOutcome). Ok (record { position = o.position; penalty = o.carry.penalty; gap = o.gap })) e
same_heard (Ok _) (Err why) e = absurd (omega (arith, ap (λ (o : RodOutcome). o.carry.number) e, fault_above why))
same_heard (Err why) (Ok _) e = absurd (omega (arith, ap (λ (o : RodOutcome). o.carry.number) e, fault_above why))
same_heard (Err why) (Err why') e = ap Err (fault_only why why' (ap (λ (o : RodOutcome). o.carry) e))

-- for any promised outcome
pub read_only : (o : RodOutcome) (a b : Result Heard Fault) → outcome_of a ≡ o → outcome_of b ≡ o → a ≡ b
read_only o a b e f = same_heard a b (e ∙ sym f)
