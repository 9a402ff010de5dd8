-- What is made of a search's outcome: the message of the bits that it found if their marker is 0, refused as 13 if it is set; what it refused is refused
-- likewise. `guarded` is the whole of the guard; each reader is this after its own search.
use Rattle.std.specs.Prelude.{List, cond, ℕ, eqb}
use Rattle.code.specs.Sound.{Carried, carrying}
use Rattle.search.specs.Outcome as Search
use Rattle.guarded.specs.declared.Fault.{Fault}
use Rattle.guarded.specs.declared.Fault.TheVariants.{Marker}
use Rattle.guarded.specs.Guard.{last_bit, message_of}
use Rattle.guarded.specs.Faults.{fault_carries}

pub record GuardedOutcome : Type 0 where
  -- number 0 if the message is shown, with the search's penalty and visits; else what the refusal carries
  pub carry : Carried
  pub gap : ℕ
  -- the lent buffer as the call leaves it: the message; under every refusal its old contents
  pub message : List ℕ

abbrev pub message_shown : List ℕ → ℕ → ℕ → ℕ → GuardedOutcome
message_shown message penalty gap visits = record { carry = carrying 0 0 penalty visits; gap = gap; message = message }

abbrev pub no_message : Fault → List ℕ → GuardedOutcome
no_message why room = record { carry = fault_carries why; gap = 0; message = room }

-- of the information bits that a search found, and their penalty, gap and visits
abbrev pub message_if : List ℕ → ℕ → ℕ → ℕ → List ℕ → GuardedOutcome
message_if b penalty gap visits room = cond (eqb (last_bit b) 0) (message_shown (message_of b) penalty gap visits) (no_message Marker room)

-- what the search refused
abbrev pub search_refused : Search.Outcome → List ℕ → GuardedOutcome
search_refused o room = record { carry = carrying o.number o.place o.penalty o.visits; gap = o.gap; message = room }

-- from a search's outcome, and the buffer for the message
unfoldable pub guarded : Search.Outcome → List ℕ → GuardedOutcome
guarded o room = cond (eqb o.number 0) (message_if o.bits o.penalty o.gap o.visits room) (search_refused o room)
