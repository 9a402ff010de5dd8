-- What a writer of guarded words reports and leaves.
use Rattle.std.specs.Prelude.{List, ℕ, Result, Ok, Err}
use Rattle.code.specs.Sound.{Carried, carrying}
use Rattle.guarded.specs.declared.Fault.{Fault}
use Rattle.guarded.specs.Faults.{fault_carries}

pub record WriteOutcome : Type 0 where
  -- 0 if the word is written, else what the refusal carries
  pub carry : Carried
  -- the lent buffer as the call leaves it
  pub word : List ℕ

abbrev pub done : List ℕ → WriteOutcome
done word = record { carry = carrying 0 0 0 0; word = word }

-- the buffer keeps its contents
abbrev pub refused : Fault → List ℕ → WriteOutcome
refused why word = record { carry = fault_carries why; word = word }

-- the answer in the rules' numbers
abbrev pub written_outcome_of : Result (Unit {0}) Fault → List ℕ → WriteOutcome
written_outcome_of (Ok _) = done
written_outcome_of (Err why) = refused why
