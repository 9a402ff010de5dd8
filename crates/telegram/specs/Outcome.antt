-- What the writer and the reader report and leave, for every input.
use Rattle.std.specs.Prelude.{List, cond, not, ℕ, ℤ, length, replicate, ltb, eqb, Result, Ok, Err}
use Rattle.code.specs.declared.Refusal.TheVariants.{InputLength, OutputLength, Entry}
use Rattle.code.specs.Sound.{Carried, carrying}
use Rattle.code.specs.Entries.{first_bad_bit}
use Rattle.search.specs.Outcome as Search
use Rattle.guarded.specs.declared.Fault.{Fault}
use Rattle.guarded.specs.declared.Fault.TheVariants.{Link}
use Rattle.guarded.specs.Faults.{fault_carries}
use Rattle.guarded.specs.Written.{WriteOutcome, done, refused}
use Rattle.telegram.specs.declared.Telegram.{Telegram}
use Rattle.telegram.specs.declared.Heard.{Heard}
use Rattle.telegram.specs.Telegram.{telegram_of, marker_of, word_of}
use Rattle.telegram.specs.Faults.{writer_fault, reader_fault}

-- ---- the writer
abbrev pub written_if : Result (Unit {0}) Fault → Telegram → List ℕ → WriteOutcome
written_if (Ok _) t word = done (word_of t)
written_if (Err why) t word = refused why word

-- from cylinder, direction, tilt, and the buffer for the word: 3, then the writer's tests
unfoldable pub writing_telegram : ℕ → ℕ → ℕ → List ℕ → WriteOutcome
writing_telegram cylinder direction tilt word =
    let t : Telegram = record { cylinder = cylinder; direction = direction; tilt = tilt } in
    cond (eqb (length word) 32) (written_if (writer_fault t) t word) (refused (Link OutputLength) word)

-- ---- the reader
pub record ReadOutcome : Type 0 where
  -- number 0 if the telegram is shown, with the search's penalty and visits; else what the refusal carries
  pub carry : Carried
  pub gap : ℕ
  -- all fields 0 under every refusal
  pub telegram : Telegram

abbrev pub no_telegram : Telegram
no_telegram = record { cylinder = 0; direction = 0; tilt = 0 }

abbrev pub showing : Telegram → ℕ → ℕ → ℕ → ReadOutcome
showing t penalty gap visits = record { carry = carrying 0 0 penalty visits; gap = gap; telegram = t }

abbrev pub faulted : Fault → ReadOutcome
faulted why = record { carry = fault_carries why; gap = 0; telegram = no_telegram }

-- the answer in the rules' numbers
abbrev pub outcome_of : Result Heard Fault → ReadOutcome
outcome_of (Ok heard) = showing heard.telegram heard.found.penalty heard.found.gap heard.found.visits
outcome_of (Err why) = faulted why

abbrev pub shown_if : Result (Unit {0}) Fault → Telegram → ℕ → ℕ → ℕ → ReadOutcome
shown_if (Ok _) t penalty gap visits = showing t penalty gap visits
shown_if (Err why) t penalty gap visits = faulted why

-- from the information bits that the search found, and their penalty, gap and visits: the reader's tests
abbrev pub judged : List ℕ → ℕ → ℕ → ℕ → ReadOutcome
judged b penalty gap visits = shown_if (reader_fault (marker_of b) (telegram_of b)) (telegram_of b) penalty gap visits

-- what the search refused
abbrev pub passed_on : Search.Outcome → ReadOutcome
passed_on o = record { carry = carrying o.number o.place o.penalty o.visits; gap = o.gap; telegram = no_telegram }

abbrev pub heard : Search.Outcome → ReadOutcome
heard o = cond (eqb o.number 0) (judged o.bits o.penalty o.gap o.visits) (passed_on o)

-- the search of RM(2,5) into buffers of its own
abbrev pub link_search : ℕ → List ℤ → Search.Outcome
link_search allowed l = Search.searching 2 5 allowed l (replicate 16 0) (replicate 32 0)

-- from the allowance and the readings
unfoldable pub reading_telegram : ℕ → List ℤ → ReadOutcome
reading_telegram allowed l = heard (link_search allowed l)

-- ---- from information bits, without readings: 2, 4, then the reader's tests. No search is made, so penalty, gap and visits are 0
unfoldable pub reading_bits : List ℕ → ReadOutcome
reading_bits b =
    let place = first_bad_bit b in
    cond (not (eqb (length b) 16)) (faulted (Link InputLength))
    (cond (ltb place (length b)) (faulted (Link (Entry place))) (judged b 0 0 0))
