-- What the writer and the reader report and leave, for every input.
use Rattle.std.specs.Prelude.{List, cond, ◌||◌, ℕ, suc, ◌^◌, ℤ, length, replicate, ltb, eqb, Result, Ok, Err}
use Rattle.code.specs.declared.Refusal.TheVariants.{Parameters, OutputLength}
use Rattle.code.specs.Sound.{Carried, carrying, largest_m}
use Rattle.search.specs.Outcome as Search
use Rattle.first_order.specs.Outcome.{first_ordering}
use Rattle.guarded.specs.declared.Fault.{Fault}
use Rattle.guarded.specs.declared.Fault.TheVariants.{Link, Field}
use Rattle.guarded.specs.Guard.{of_digits}
use Rattle.guarded.specs.Faults.{fault_carries}
use Rattle.guarded.specs.Outcome.{GuardedOutcome, guarded}
use Rattle.guarded.specs.Written.{WriteOutcome, done, refused}
use Rattle.rod.specs.declared.Heard.{Heard}
use Rattle.rod.specs.Rod.{rod_word}

-- ---- the reader
pub record RodOutcome : Type 0 where
  -- number 0 if the position is shown, with the penalty; else what the refusal carries. There are no visits
  pub carry : Carried
  pub gap : ℕ
  -- 0 under every refusal
  pub position : ℕ

abbrev pub position_shown : ℕ → ℕ → ℕ → RodOutcome
position_shown position penalty gap = record { carry = carrying 0 0 penalty 0; gap = gap; position = position }

abbrev pub no_position : Fault → RodOutcome
no_position why = record { carry = fault_carries why; gap = 0; position = 0 }

-- the answer in the rules' numbers
abbrev pub outcome_of : Result Heard Fault → RodOutcome
outcome_of (Ok heard) = position_shown heard.position heard.penalty heard.gap
outcome_of (Err why) = no_position why

-- the first-order word of RM(1,m) into buffers of its own
abbrev pub rod_search : ℕ → List ℤ → Search.Outcome
rod_search m l = first_ordering 1 m l (replicate (suc m) 0) (replicate (2 ^ m) 0)

-- its message, m zeros under every refusal
abbrev pub rod_message : ℕ → List ℤ → GuardedOutcome
rod_message m l = guarded (rod_search m l) (replicate m 0)

-- the number that it says
abbrev pub position_said : GuardedOutcome → RodOutcome
position_said o = record { carry = o.carry; gap = o.gap; position = of_digits o.message }

-- from m and the readings
unfoldable pub reading_rod : ℕ → List ℤ → RodOutcome
reading_rod m l = position_said (rod_message m l)

-- ---- the writer
-- from m, the position, and the buffer for the word: 1, 3, then 16
unfoldable pub writing_rod : ℕ → ℕ → List ℕ → WriteOutcome
writing_rod m position word =
    cond (eqb m 0 || ltb largest_m m) (refused (Link Parameters) word)
    (cond (eqb (length word) (2 ^ m)) (cond (ltb position (2 ^ m)) (done (rod_word m position)) (refused Field word))
    (refused (Link OutputLength) word))
