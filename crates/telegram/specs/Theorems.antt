-- What is proved about telegrams, sentence by sentence, over the definitions that the contracts cite. That it holds is proved in TheoremsMet.
use Rattle.std.specs.Prelude.{◌≡◌, ◌⊎◌, ◌↔◌, List, map, cond, ℕ, ◌+◌, ◌-◌, ◌*◌, ◌≤◌, ◌<◌, ℤ, neg_ℤ, length, eqb}
use Rattle.words.specs.Kinds.{kinds}
use Rattle.decoding.specs.Walk.{needed, tree}
use Rattle.code.specs.declared.Refusal.TheVariants.{OutOfVisits}
use Rattle.code.specs.Sound.{default_allowance}
use Rattle.search.specs.Outcome as Search
use Rattle.telegram.specs.declared.Telegram.{Telegram}
use Rattle.guarded.specs.declared.Fault.TheVariants.{Link, Marker}
use Rattle.telegram.specs.Telegram.{telegram_bits, word_of}
use Rattle.telegram.specs.Faults.{Writable}
use Rattle.guarded.specs.Written.{done}
use Rattle.telegram.specs.Outcome.{writing_telegram, ReadOutcome, no_telegram, showing, faulted, passed_on, link_search, reading_telegram}
use Rattle.telegram.specs.Outcome.{reading_bits}

-- the search of the readings finds the telegram's word
pub record Finds (allowed : ℕ) (l : List ℤ) (t : Telegram) : Type 0 where
  pub answers : (link_search allowed l).number ≡ 0
  pub finds : (link_search allowed l).word ≡ word_of t

-- a link that is turned over: every reading negated
abbrev pub turned : List ℤ → List ℤ
turned l = map neg_ℤ l

pub record WriteTheorems : Type 0 where
  -- The writer accepts these telegrams and no others.
  pub accepts : (t : Telegram) (word : List ℕ) → length word ≡ 32
      → (writing_telegram t.cylinder t.direction t.tilt word ≡ done (word_of t)) ↔ Writable t
  -- No two telegrams have the same word.
  pub one_word : (t t' : Telegram) → Writable t → Writable t' → word_of t ≡ word_of t' → t ≡ t'

-- A larger allowance changes no telegram and no refusal except 6: every number and every field stay the same.
abbrev pub TelegramLargerAllowance : List ℤ → Type 0
TelegramLargerAllowance l = (allowed more : ℕ) → allowed ≤ more
    → ((reading_telegram allowed l).carry.number ≡ 6 → ⊥) → reading_telegram more l ≡ reading_telegram allowed l

pub record ReadTheorems : Type 0 where
  -- What was written is read, for any readings whose search finds the written word.
  pub written_read : (t : Telegram) → Writable t → (allowed : ℕ) (l : List ℤ) → Finds allowed l t
      → (let o = link_search allowed l in reading_telegram allowed l ≡ showing t o.penalty o.gap o.visits)
  -- Every readable telegram is one that the writer accepts, and its word is the one that was found.
  pub read-written : (allowed : ℕ) (l : List ℤ) → (reading_telegram allowed l).carry.number ≡ 0
      → Writable (reading_telegram allowed l).telegram × Finds allowed l (reading_telegram allowed l).telegram
  -- With the default allowance the reader never gives 6, since it is above the whole tree.
  pub whole_tree : tree (kinds 2 5) ≡ 131759
  pub never_out : (l : List ℤ) → (reading_telegram default_allowance l).carry.number ≡ 6 → ⊥
  pub larger : (l : List ℤ) → TelegramLargerAllowance l

pub record TurnedTheorems (l : List ℤ) : Type 0 where
  -- If every reading is negated, the reader refuses with 13 and shows nothing if the walk on the negated readings stays within its allowance,
  pub marked : (allowed : ℕ) → needed 5 (kinds 2 5) (turned l) ≤ allowed → reading_telegram allowed (turned l) ≡ faulted Marker
  -- else with 6.
  pub out : (allowed : ℕ) → allowed < needed 5 (kinds 2 5) (turned l) → reading_telegram allowed (turned l) ≡ faulted (Link (OutOfVisits allowed))
  -- The walk on the negated readings needs exactly as many visits, so under the same allowance they are refused as 13 exactly if the upright ones are read.
  pub same_visits : needed 5 (kinds 2 5) (turned l) ≡ needed 5 (kinds 2 5) l
  pub exactly : (allowed : ℕ) → ((reading_telegram allowed (turned l)).carry.number ≡ 13) ↔ ((reading_telegram allowed l).carry.number ≡ 0)

-- A turned-over link never shows a tilt: for all telegrams, all readings whose search finds one, and all allowances.
abbrev pub NeverShown : Type 0
NeverShown =
    (t : Telegram) → Writable t → (l : List ℤ) (allowed allowed' : ℕ) → Finds allowed l t
    → (let o = reading_telegram allowed' (turned l) in (0 < o.carry.number) × (o.telegram ≡ no_telegram))

-- For all readings, whatever their search finds, and the same readings negated:
pub record TurnedOver (l : List ℤ) : Type 0 where
  -- no readings show a telegram on both polarities, whatever the two readers allow.
  pub never_both : (allowed allowed' : ℕ) → (reading_telegram allowed l).carry.number ≡ 0 → (reading_telegram allowed' (turned l)).carry.number ≡ 0 → ⊥
  -- Under the same allowance the negated ones are refused by their marker exactly if the upright ones pass that test: they are read, or refused as 14 or 15.
  pub marked_exactly : (allowed : ℕ) → let n = (reading_telegram allowed l).carry.number in
      ((reading_telegram allowed (turned l)).carry.number ≡ 13) ↔ ((n ≡ 0) ⊎ (n ≡ 14) ⊎ (n ≡ 15))
  -- And the upright ones exactly if the negated ones do.
  pub upright_exactly : (allowed : ℕ) → let n = (reading_telegram allowed (turned l)).carry.number in
      ((reading_telegram allowed l).carry.number ≡ 13) ↔ ((n ≡ 0) ⊎ (n ≡ 14) ⊎ (n ≡ 15))

-- what bits say, with a search's penalty, gap and visits added if they give a telegram
abbrev pub with_numbers : ℕ → ℕ → ℕ → ReadOutcome → ReadOutcome
with_numbers penalty gap visits o = cond (eqb o.carry.number 0) (showing o.telegram penalty gap visits) o

abbrev pub said_after : Search.Outcome → ReadOutcome
said_after o = cond (eqb o.number 0) (with_numbers o.penalty o.gap o.visits (reading_bits o.bits)) (passed_on o)

pub record BitsTheorems : Type 0 where
  -- The bits of a telegram that the writer accepts give that telegram,
  pub written_said : (t : Telegram) → Writable t → reading_bits (telegram_bits t) ≡ showing t 0 0 0
  -- and no other bits give one.
  pub said_written : (b : List ℕ) → (reading_bits b).carry.number ≡ 0 → Writable (reading_bits b).telegram × (b ≡ telegram_bits (reading_bits b).telegram)
  -- The reader of readings is the reader of the bits that its search finds.
  pub after_search : (allowed : ℕ) (l : List ℤ) → reading_telegram allowed l ≡ said_after (link_search allowed l)

-- how many telegrams these are: numbered from 0, each once
abbrev pub telegrams : ℕ
telegrams = 8 * 2 * 1501 - 8

abbrev pub ordinal : Telegram → ℕ
ordinal t = t.cylinder * 3001 + (t.direction * 1500 + t.tilt)

pub record Counted : Type 0 where
  pub below : (t : Telegram) → Writable t → ordinal t < telegrams
  pub once : (t t' : Telegram) → Writable t → Writable t' → ordinal t ≡ ordinal t' → t ≡ t'
  pub all : (n : ℕ) → n < telegrams → (t : Telegram) × Writable t × (ordinal t ≡ n)

pub record Theorems : Type 0 where
  pub writes : WriteTheorems
  pub reads : ReadTheorems
  pub bits : BitsTheorems
  pub turns : (t : Telegram) → Writable t → (allowed : ℕ) (l : List ℤ) → Finds allowed l t → TurnedTheorems l
  pub never_shown : NeverShown
  pub either_way : (l : List ℤ) → TurnedOver l
  pub counted : Counted
