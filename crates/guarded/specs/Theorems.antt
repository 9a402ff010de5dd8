-- What is proved about guarded words, sentence by sentence, for every search that meets the demands: over RM(r,m), over a shortened set that has the
-- word of ones, and for first-order words. That it holds is proved in TheoremsMet.
use Rattle.std.specs.Prelude.{◌≡◌, ◌↔◌, List, map, ℕ, suc, ◌*◌, ◌^◌, ◌≤◌, ◌<◌, ℤ, neg_ℤ, length, replicate}
use Rattle.numbers.specs.Sums.{sum}
use Rattle.words.specs.Bits.{Bits}
use Rattle.words.specs.Kinds.{encoded, Word, all_ones}
use Rattle.words.specs.Distance.{distance}
use Rattle.decoding.specs.Walk.{needed}
use Rattle.decoding.specs.GapLaws.{drift}
use Rattle.decoding.specs.CleanLaws.{clean}
use Rattle.code.specs.declared.Refusal.TheVariants.{OutOfVisits}
use Rattle.search.specs.Outcome as Search
use Rattle.search.specs.Demands.{Searching, Passes, DemandsOf}
use Rattle.guarded.specs.declared.Fault.TheVariants.{Link, Marker}
use Rattle.guarded.specs.Guard.{guarded_bits}
use Rattle.guarded.specs.Outcome.{GuardedOutcome, message_shown, no_message, guarded}

-- a link that is turned over: every reading negated
abbrev pub turned : List ℤ → List ℤ
turned l = map neg_ℤ l

-- ---- a search into buffers of the reader's own, for a message that has this room, and its guard
abbrev pub own_search : Searching → ℕ → List ℤ → List ℕ → Search.Outcome
own_search s allowed l room = s.by allowed l (replicate (suc (length room)) 0) (replicate (2 ^ s.code.m) 0)

abbrev pub reading : Searching → ℕ → List ℤ → List ℕ → GuardedOutcome
reading s allowed l room = guarded (own_search s allowed l room) room

-- what is required of the search: it answers by the words of its row of kinds, of which the word of ones is one
pub record Guards (s : Searching) : Type 0 where
  pub long_kinds : length s.kinds ≡ 2 ^ s.code.m
  pub are_kinds : Bits s.kinds
  pub counted : s.expected ≡ sum s.kinds
  pub all_ones_lem : Word s.code.m s.kinds (all_ones s.code.m)
  pub demands : (l : List ℤ) (bits word : List ℕ) → Passes s l bits word → DemandsOf s l bits word
  -- what is found, and what is refused as 6, passed the tests 1 to 4
  pub found-passes : (allowed : ℕ) (l : List ℤ) (bits word : List ℕ) → (s.by allowed l bits word).number ≡ 0 → Passes s l bits word
  pub out_passes : (allowed : ℕ) (l : List ℤ) (bits word : List ℕ) → (s.by allowed l bits word).number ≡ 6 → Passes s l bits word
  -- no search gives 13
  pub below_13 : (allowed : ℕ) (l : List ℤ) (bits word : List ℕ) → (s.by allowed l bits word).number < 13
  -- a larger allowance changes no answer
  pub larger : (allowed more : ℕ) (l : List ℤ) (bits word : List ℕ) → allowed ≤ more → ((s.by allowed l bits word).number ≡ 6 → ⊥)
      → s.by more l bits word ≡ s.by allowed l bits word

-- the search of the readings finds the word of the guarded message
pub record Finds (s : Searching) (allowed : ℕ) (l : List ℤ) (room message : List ℕ) : Type 0 where
  pub long : length message ≡ length room
  pub are_bits : Bits message
  pub answers : (own_search s allowed l room).number ≡ 0
  pub finds : (own_search s allowed l room).word ≡ encoded s.code.m s.kinds (guarded_bits message)

-- ---- (a) what was written is read, for any readings whose search finds the written word
abbrev pub WrittenRead : Searching → Type 0
WrittenRead s = (allowed : ℕ) (l : List ℤ) (room message : List ℕ) → Finds s allowed l room message
    → (let o = own_search s allowed l room in reading s allowed l room ≡ message_shown message o.penalty o.gap o.visits)

-- and what is shown was found, as a guarded word
abbrev pub ReadWritten : Searching → Type 0
ReadWritten s = (allowed : ℕ) (l : List ℤ) (room : List ℕ) → (reading s allowed l room).carry.number ≡ 0
    → Finds s allowed l room (reading s allowed l room).message

-- Any two of the words differ in at least this many places.
abbrev pub Apart : Searching → ℕ → Type 0
Apart s d = (c x : List ℕ) → Word s.code.m s.kinds c → Word s.code.m s.kinds x → (c ≡ x → ⊥) → d ≤ distance c x

-- Noise whose sizes add up to less than d times the size of the readings as sent leaves the written word the one that is found, if the walk is allowed.
abbrev pub NoiseCorrected : Searching → Type 0
NoiseCorrected s = (d : ℕ) → Apart s d → (room message : List ℕ) → length message ≡ length room → Bits message → (size : ℕ) → 1 ≤ size
    → (allowed : ℕ) (l : List ℤ) → Passes s l (replicate (suc (length room)) 0) (replicate (2 ^ s.code.m) 0) → needed s.code.m s.kinds l ≤ allowed
    → drift (clean size (encoded s.code.m s.kinds (guarded_bits message))) l < size * d → Finds s allowed l room message

-- ---- (b) for all readings, whatever their search finds, and the same readings negated
pub record TurnedOver (s : Searching) (l : List ℤ) (room : List ℕ) : Type 0 where
  -- no readings show a message on both polarities, whatever the two readers allow.
  pub never_both : (allowed allowed' : ℕ) → (reading s allowed l room).carry.number ≡ 0 → (reading s allowed' (turned l) room).carry.number ≡ 0 → ⊥
  -- Under one allowance the negated ones are refused by their marker exactly if the upright ones are shown,
  pub marked_exactly : (allowed : ℕ) → ((reading s allowed (turned l) room).carry.number ≡ 13) ↔ ((reading s allowed l room).carry.number ≡ 0)
  -- and the upright ones exactly if the negated ones are shown.
  pub upright_exactly : (allowed : ℕ) → ((reading s allowed l room).carry.number ≡ 13) ↔ ((reading s allowed (turned l) room).carry.number ≡ 0)
  -- 6 is given on both sides or on neither.
  pub out_exactly : (allowed : ℕ) → ((reading s allowed (turned l) room).carry.number ≡ 6) ↔ ((reading s allowed l room).carry.number ≡ 6)

-- ---- (c) readings whose search finds the word of a message, negated: never shown
pub record TurnedMessage (s : Searching) (l : List ℤ) (room : List ℕ) : Type 0 where
  -- refused by the marker if the walk on the negated readings stays within its allowance,
  pub marked : (allowed : ℕ) → needed s.code.m s.kinds (turned l) ≤ allowed → reading s allowed (turned l) room ≡ no_message Marker room
  -- else with 6.
  pub out : (allowed : ℕ) → allowed < needed s.code.m s.kinds (turned l)
      → reading s allowed (turned l) room ≡ no_message (Link (OutOfVisits allowed)) room
  -- That walk needs exactly as many visits.
  pub same_visits : needed s.code.m s.kinds (turned l) ≡ needed s.code.m s.kinds l

pub record GuardTheorems (s : Searching) : Type 0 where
  pub written_read : WrittenRead s
  pub read-written : ReadWritten s
  pub noise_corrected : NoiseCorrected s
  pub turned-over : (l : List ℤ) (room : List ℕ) → TurnedOver s l room
  pub turned_message : (allowed : ℕ) (l : List ℤ) (room message : List ℕ) → Finds s allowed l room message → TurnedMessage s l room
