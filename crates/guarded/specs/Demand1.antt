-- Demand 1 of a guarded reader: when each number is given, what is reported with it, and what stays; by the checks of its search, which come before 13.
-- That every guard after a search that meets its own demand 1 meets this is proved in Demand1Met.
use Rattle.std.specs.Prelude.{◌≡◌, ◌↔◌, List, ℕ, ◌≤◌, ◌<◌}
use Rattle.code.specs.declared.Refusal.{Refusal}
use Rattle.code.specs.Sound.{number_of}
use Rattle.code.specs.Demand1.{Checks, First, NoneApplies}
use Rattle.guarded.specs.declared.Fault.TheVariants.{Link, Marker}
use Rattle.guarded.specs.Guard.{last_bit}
use Rattle.guarded.specs.Outcome.{GuardedOutcome, no_message}

-- b are the information bits that the search finds, room is the lent buffer as it was, o the outcome
pub record Meets (checks : Checks) (b room : List ℕ) (o : GuardedOutcome) : Type 0 where
  -- below 13 it refuses as the search's checks do, with what that refusal carries
  pub link : (n : ℕ) → 0 < n → n < 13 → (o.carry.number ≡ n) ↔ First (λ why. number_of why ≡ n) checks
  pub link_refused : (why : Refusal) → First (λ given. given ≡ why) checks → o ≡ no_message (Link why) room
  pub thirteen : (o.carry.number ≡ 13) ↔ NoneApplies checks × (last_bit b ≡ 1)
  pub marked : o.carry.number ≡ 13 → o ≡ no_message Marker room
  pub shown : (o.carry.number ≡ 0) ↔ NoneApplies checks × (last_bit b ≡ 0)
  -- there is no other number
  pub most : o.carry.number ≤ 13
  pub no_place : o.carry.number ≡ 0 → o.carry.place ≡ 0
