-- No second answer meets the promise of `header_of`: the rules' numbers tell every header apart.
use Rattle.std.specs.Prelude.{◌≡◌, Result, Ok, Err}
use Rattle.std.proofs.Common.{ap, arith}
use Rattle.code.specs.RefusalLaws.{refusal_only, number_above}
use Rattle.record.specs.Reader.{HeaderOutcome, outcome_of}
use Rattle.code.specs.declared.Code.{Code}
use Rattle.code.specs.declared.Refusal.{Refusal}

pub header_only : (h h' : Result Code Refusal) → outcome_of h ≡ outcome_of h' → h ≡ h'
header_only (Ok c) (Ok d) e = ap (λ (t : HeaderOutcome). Ok (record { r = t.r; m = t.m })) e
header_only (Ok c) (Err why) e = absurd (omega (arith, number_above why, ap (λ (t : HeaderOutcome). t.carry.number) e))
header_only (Err why) (Ok c) e = absurd (omega (arith, number_above why, ap (λ (t : HeaderOutcome). t.carry.number) e))
header_only (Err why) (Err why') e = ap Err (refusal_only why why' (ap (λ (t : HeaderOutcome). t.carry) e))
