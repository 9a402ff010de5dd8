-- Demand 1 of `unpack`: 2 exactly if no record has a part of that length, then 3 exactly if the buffer's length is not the number of its readings.
-- Proved in UnpackDemandMet.
use Rattle.std.specs.Prelude.{◌≡◌, List, [], ℕ, ◌^◌, ◌≤◌, ◌<◌, ℤ, length}
use Rattle.code.specs.declared.Refusal.TheVariants.{InputLength, OutputLength}
use Rattle.code.specs.Sound.{largest_m}
use Rattle.code.specs.Demand1.{View, Checks, passed, check, Demand1}
use Rattle.packing.specs.Layout.{part_length}
use Rattle.packing.specs.Unpacking.{UnpackedOutcome, unpacking}

-- a record with this m has a part of this length
abbrev pub PartFor : List ℕ → ℕ → Type 0
PartFor part m = (m ≤ largest_m) × (length part ≡ part_length m)

abbrev pub unpack_checks : List ℕ → List ℤ → Checks
unpack_checks part readings =
    check InputLength ((m : ℕ) → PartFor part m → ⊥)
    (check OutputLength ((m : ℕ) → PartFor part m → length readings ≡ 2 ^ m → ⊥) passed)

-- what is reported; the readings come beside it
abbrev pub unpack_view : UnpackedOutcome → View
unpack_view o =
    let c = o.carry in
    record { number = c.number; place = c.place; penalty = c.penalty; gap = 0; visits = c.visits; buffers = [] }

pub record UnpackDemand1 (part : List ℕ) (readings : List ℤ) : Type 0 where
  pub numbers : Demand1 (unpack_checks part readings) [] (unpack_view (unpacking part readings))
  pub kept : 0 < (unpacking part readings).carry.number → (unpacking part readings).readings ≡ readings
