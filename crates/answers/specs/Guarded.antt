-- What the exports of guarded words report, as C sees it: telegrams and rod positions.
use Rattle.std.specs.Prelude.{List, [], ◌∷◌, ℕ, Result, Ok, Err}
use Rattle.guarded.specs.Faults.{fault_carries}
use Rattle.guarded.specs.Written.{WriteOutcome}
use Rattle.telegram.specs.declared.Telegram.{Telegram}
use Rattle.telegram.specs.Outcome.{ReadOutcome}
use Rattle.rod.specs.Outcome.{RodOutcome}
use Rattle.answers.specs.Reported.{Reported, reported, numbers}
use Rattle.guarded.specs.declared.Fault.{Fault}

-- the number of a writer's answer
abbrev pub written_number : Result (Unit {0}) Fault → ℕ
written_number (Ok _) = 0
written_number (Err why) = (fault_carries why).number

-- an outcome of a writer, whose refusals carry only their number
abbrev pub shown_written : WriteOutcome → Reported
shown_written o = reported o.carry.number (numbers 0 0 0 0) (o.word ∷ [])

-- cylinder, direction, tilt: the header's struct
abbrev pub fields : Telegram → List ℕ
fields t = t.cylinder ∷ t.direction ∷ t.tilt ∷ []

-- an outcome of a telegram's reader: the lent struct gets the telegram
abbrev pub shown_read : ReadOutcome → Reported
shown_read o = let c = o.carry in reported c.number (numbers c.penalty o.gap c.visits c.place) (fields o.telegram ∷ [])

-- an outcome of the rod's reader: the lent number gets the position
abbrev pub shown_rod : RodOutcome → Reported
shown_rod o = let c = o.carry in reported c.number (numbers c.penalty o.gap c.visits c.place) ((o.position ∷ []) ∷ [])
