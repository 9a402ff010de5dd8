-- Demand 1 of the rod's reader and writer: when each number is given, what is reported with it, and what stays. That both meet it is proved in Demand1Met.
use Rattle.std.specs.Prelude.{◌≡◌, ◌⊎◌, ◌↔◌, List, ℕ, suc, ◌^◌, ◌≤◌, ◌<◌, ℤ, length, replicate}
use Rattle.code.specs.declared.Refusal.{Refusal}
use Rattle.code.specs.Sound.{largest_m, carrying, number_of}
use Rattle.code.specs.Demand1.{Checks, First, NoneApplies}
use Rattle.first_order.specs.Demands.{first_order_checks}
use Rattle.guarded.specs.declared.Fault.TheVariants.{Link, Marker}
use Rattle.guarded.specs.Guard.{last_bit}
use Rattle.guarded.specs.Written.{WriteOutcome}
use Rattle.rod.specs.Outcome.{RodOutcome, no_position, rod_search, reading_rod, writing_rod}

-- ---- the reader: 1, 2, 4, 7 as the first-order words into buffers of the right lengths, then 13
abbrev pub rod_checks : ℕ → List ℤ → Checks
rod_checks m l = first_order_checks 1 m l (replicate (suc m) 0) (replicate (2 ^ m) 0)

pub record RodReaderMeets (m : ℕ) (l : List ℤ) (o : RodOutcome) : Type 0 where
  pub link : (n : ℕ) → 0 < n → n < 13 → (o.carry.number ≡ n) ↔ First (λ why. number_of why ≡ n) (rod_checks m l)
  pub link_refused : (why : Refusal) → First (λ given. given ≡ why) (rod_checks m l) → o ≡ no_position (Link why)
  pub thirteen : (o.carry.number ≡ 13) ↔ NoneApplies (rod_checks m l) × (last_bit (rod_search m l).bits ≡ 1)
  pub marked : o.carry.number ≡ 13 → o ≡ no_position Marker
  pub shown : (o.carry.number ≡ 0) ↔ NoneApplies (rod_checks m l) × (last_bit (rod_search m l).bits ≡ 0)
  -- there is no other number
  pub most : o.carry.number ≤ 13
  pub no_place : o.carry.number ≡ 0 → o.carry.place ≡ 0

abbrev pub RodReadDemand1 : ℕ → List ℤ → Type 0
RodReadDemand1 m l = RodReaderMeets m l (reading_rod m l)

-- ---- the writer: 1, 3, then 16
abbrev pub NoCode : ℕ → Type 0
NoCode m = (m ≡ 0) ⊎ (largest_m < m)

pub record RodWriterMeets (m position : ℕ) (word : List ℕ) (o : WriteOutcome) : Type 0 where
  pub one : (o.carry.number ≡ 1) ↔ NoCode m
  pub three : (o.carry.number ≡ 3) ↔ (NoCode m → ⊥) × (length word ≡ 2 ^ m → ⊥)
  pub sixteen : (o.carry.number ≡ 16) ↔ (NoCode m → ⊥) × (length word ≡ 2 ^ m) × (2 ^ m ≤ position)
  pub done : (o.carry.number ≡ 0) ↔ (NoCode m → ⊥) × (length word ≡ 2 ^ m) × (position < 2 ^ m)
  -- nothing but its number is carried, and the buffer is unchanged
  pub refused : 0 < o.carry.number → o ≡ record { carry = carrying o.carry.number 0 0 0; word = word }

abbrev pub RodWriteDemand1 : ℕ → ℕ → List ℕ → Type 0
RodWriteDemand1 m position word = RodWriterMeets m position word (writing_rod m position word)
