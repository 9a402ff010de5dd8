-- Demand 1 of the telegram's writer and reader, and of the reader of information bits (docs/RULES.md, §11): when each number is given, what is reported with
-- it, and what stays. That all three meet it is proved in Demand1Met.
use Rattle.std.specs.Prelude.{◌≡◌, ◌⊎◌, ◌↔◌, List, ℕ, ◌≤◌, ◌<◌, ℤ, length, replicate}
use Rattle.code.specs.declared.Refusal.{Refusal}
use Rattle.code.specs.declared.Refusal.TheVariants.{InputLength, Entry}
use Rattle.code.specs.Sound.{carrying, number_of}
use Rattle.code.specs.Demand1.{Checks, passed, check, check_at, First, NoneApplies, LowestBad}
use Rattle.search.specs.Demands.{search_checks}
use Rattle.guarded.specs.Written.{WriteOutcome}
use Rattle.telegram.specs.declared.Telegram.{Telegram}
use Rattle.guarded.specs.declared.Fault.TheVariants.{Link}
use Rattle.telegram.specs.Telegram.{telegram_of, marker_of}
use Rattle.telegram.specs.Faults.{largest_cylinder, largest_direction, largest_tilt, TiltGood, Writable}
use Rattle.telegram.specs.Outcome.{writing_telegram, ReadOutcome, no_telegram, faulted, link_search, reading_telegram, reading_bits}

-- what 14, 15 and 16 are given for; TiltGood says that neither 14 nor 15 is
abbrev pub TooTilted : Telegram → Type 0
TooTilted t = largest_tilt < t.tilt

abbrev pub LevelToPort : Telegram → Type 0
LevelToPort t = (t.tilt ≡ 0) × (t.direction ≡ 1)

abbrev pub BeyondField : Telegram → Type 0
BeyondField t = (largest_cylinder < t.cylinder) ⊎ (largest_direction < t.direction)

-- ---- the writer, which reports and leaves o
pub record WriterMeets (t : Telegram) (word : List ℕ) (o : WriteOutcome) : Type 0 where
  pub three : (o.carry.number ≡ 3) ↔ (length word ≡ 32 → ⊥)
  pub fourteen : (o.carry.number ≡ 14) ↔ (length word ≡ 32) × TooTilted t
  pub fifteen : (o.carry.number ≡ 15) ↔ (length word ≡ 32) × LevelToPort t
  pub sixteen : (o.carry.number ≡ 16) ↔ (length word ≡ 32) × TiltGood t × BeyondField t
  pub done : (o.carry.number ≡ 0) ↔ (length word ≡ 32) × Writable t
  -- nothing but its number is carried, and the buffer is unchanged
  pub refused : 0 < o.carry.number → o ≡ record { carry = carrying o.carry.number 0 0 0; word = word }
  pub no_place : o.carry.number ≡ 0 → o.carry.place ≡ 0

abbrev pub TelegramWriteDemand1 : Telegram → List ℕ → Type 0
TelegramWriteDemand1 t word = WriterMeets t word (writing_telegram t.cylinder t.direction t.tilt word)

-- ---- a reader, which reports o, by the checks that come before the tests on its bits b
pub record ReaderMeets (checks : Checks) (b : List ℕ) (o : ReadOutcome) : Type 0 where
  -- below 13 it refuses as these checks do, with what that refusal carries
  pub link : (n : ℕ) → 0 < n → n < 13 → (o.carry.number ≡ n) ↔ First (λ why. number_of why ≡ n) checks
  pub link_refused : (why : Refusal) → First (λ given. given ≡ why) checks → o ≡ faulted (Link why)
  pub thirteen : (o.carry.number ≡ 13) ↔ NoneApplies checks × (marker_of b ≡ 1)
  pub fourteen : (o.carry.number ≡ 14) ↔ NoneApplies checks × (marker_of b ≡ 0) × TooTilted (telegram_of b)
  pub fifteen : (o.carry.number ≡ 15) ↔ NoneApplies checks × (marker_of b ≡ 0) × LevelToPort (telegram_of b)
  pub shown : (o.carry.number ≡ 0) ↔ NoneApplies checks × (marker_of b ≡ 0) × TiltGood (telegram_of b)
  -- from 13 on nothing but the number is carried
  pub own : 13 ≤ o.carry.number → o.carry ≡ carrying o.carry.number 0 0 0
  -- under every refusal no telegram is shown, and no gap
  pub refused : 0 < o.carry.number → (o.telegram ≡ no_telegram) × (o.gap ≡ 0)
  pub no_place : o.carry.number ≡ 0 → o.carry.place ≡ 0

-- for readings: the checks of the search of RM(2,5), into buffers of the right lengths, and the bits that it finds
abbrev pub link_checks : ℕ → List ℤ → Checks
link_checks allowed l = search_checks 2 5 allowed l (replicate 16 0) (replicate 32 0)

abbrev pub TelegramReadDemand1 : ℕ → List ℤ → Type 0
TelegramReadDemand1 allowed l = ReaderMeets (link_checks allowed l) (link_search allowed l).bits (reading_telegram allowed l)

-- for information bits: their number and their entries
abbrev pub bits_checks : List ℕ → Checks
bits_checks b = check InputLength (length b ≡ 16 → ⊥) (check_at Entry (LowestBad 0 (λ x. x) 1 b) passed)

abbrev pub TelegramBitsDemand1 : List ℕ → Type 0
TelegramBitsDemand1 b = ReaderMeets (bits_checks b) b (reading_bits b)
