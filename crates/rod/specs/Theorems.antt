-- What is proved about rod positions, sentence by sentence. That it holds is proved in TheoremsMet.
use Rattle.std.specs.Prelude.{◌≡◌, ◌↔◌, List, ℕ, suc, ◌-◌, ◌*◌, ◌%◌, ◌^◌, ◌≤◌, ◌<◌, ℤ, replicate}
use Rattle.words.specs.Bits.{ones}
use Rattle.decoding.specs.CleanLaws.{clean}
use Rattle.decoding.specs.GapLaws.{drift}
use Rattle.hadamard.specs.Hadamard.{first_order}
use Rattle.search.specs.Demands.{SoundSearch}
use Rattle.guarded.specs.declared.Fault.TheVariants.{Marker}
use Rattle.guarded.specs.Theorems.{turned}
use Rattle.rod.specs.Rod.{rod_word}
use Rattle.rod.specs.Outcome.{position_shown, no_position, rod_search, reading_rod}

-- the engine finds the position's word in the readings
pub record Finds (m position : ℕ) (l : List ℤ) : Type 0 where
  pub answers : (rod_search m l).number ≡ 0
  pub finds : (rod_search m l).word ≡ rod_word m position

-- For all readings, whatever is found in them, and the same readings negated:
pub record TurnedOver (m : ℕ) (l : List ℤ) : Type 0 where
  -- no readings show a position on both polarities.
  pub never_both : (reading_rod m l).carry.number ≡ 0 → (reading_rod m (turned l)).carry.number ≡ 0 → ⊥
  -- The negated ones are refused by their marker exactly if the upright ones are shown, and the other way round.
  pub marked_exactly : ((reading_rod m (turned l)).carry.number ≡ 13) ↔ ((reading_rod m l).carry.number ≡ 0)
  pub upright_exactly : ((reading_rod m l).carry.number ≡ 13) ↔ ((reading_rod m (turned l)).carry.number ≡ 0)

pub record Theorems (m : ℕ) : Type 0 where
  -- Bit j of the word of a position is 1 exactly if the position has an odd number of ones where j has zeros: as a word of the transform (§13).
  pub word-is : (position : ℕ) → position < 2 ^ m → rod_word m position ≡ first_order m position (ones m position % 2)
  -- No two positions have the same word.
  pub one_word : (p q : ℕ) → p < 2 ^ m → q < 2 ^ m → rod_word m p ≡ rod_word m q → p ≡ q
  -- What was written is read, for any readings in which its word is found,
  pub written_read : (position : ℕ) → position < 2 ^ m → (l : List ℤ) → Finds m position l
      → (let o = rod_search m l in reading_rod m l ≡ position_shown position o.penalty o.gap)
  -- and it is found wherever the noise, in sizes of readings together, is below s times 2^(m-1): s is the size of the readings without noise.
  pub noise_corrected : (position : ℕ) → position < 2 ^ m → (s : ℕ) → 1 ≤ s → (l : List ℤ)
      → SoundSearch 1 m l (replicate (suc m) 0) (replicate (2 ^ m) 0) → drift (clean s (rod_word m position)) l < s * 2 ^ (m - 1) → Finds m position l
  -- Every position that is shown is one that can be written, and its word is the one that was found.
  pub read-written : (l : List ℤ) → (reading_rod m l).carry.number ≡ 0
      → ((reading_rod m l).position < 2 ^ m) × Finds m (reading_rod m l).position l
  -- A turned-over link never shows a position: it is refused by its marker, with no premise.
  pub turned_marked : (position : ℕ) → position < 2 ^ m → (l : List ℤ) → Finds m position l → reading_rod m (turned l) ≡ no_position Marker
  pub turned-over : (l : List ℤ) → TurnedOver m l
  -- 6 is never given.
  pub never_out : (l : List ℤ) → (reading_rod m l).carry.number ≡ 6 → ⊥
