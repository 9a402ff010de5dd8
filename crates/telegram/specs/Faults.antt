-- What is wrong with a telegram, in the order in which it is looked for: the writer's tests 14, 15, 16 and the reader's 13, 14, 15.
use Rattle.std.specs.Prelude.{cond, ◌&&◌, ◌||◌, ◌≡◌, ℕ, ◌≤◌, ltb, eqb, Result, Ok, Err}
use Rattle.telegram.specs.declared.Telegram.{Telegram}
use Rattle.guarded.specs.declared.Fault.TheVariants.{Marker, Tilt, ZeroTilt, Field}
use Rattle.guarded.specs.declared.Fault.{Fault}

-- the limits; nothing else repeats them
abbrev pub largest_cylinder : ℕ
largest_cylinder = 7

abbrev pub largest_direction : ℕ
largest_direction = 1

-- hundredths of a degree
abbrev pub largest_tilt : ℕ
largest_tilt = 1500

-- ---- the tests
-- 14: the tilt is above the largest; then 15: a tilt of zero with direction 1
abbrev pub tilt_fault : Telegram → Result (Unit {0}) Fault
tilt_fault t = cond (ltb largest_tilt t.tilt) (Err Tilt) (cond (eqb t.tilt 0 && eqb t.direction 1) (Err ZeroTilt) (Ok tt))

-- 16: a cylinder or a direction above the largest
abbrev pub field_fault : Telegram → Result (Unit {0}) Fault
field_fault t = cond (ltb largest_cylinder t.cylinder || ltb largest_direction t.direction) (Err Field) (Ok tt)

-- 13: the marker is set
abbrev pub marker_fault : ℕ → Result (Unit {0}) Fault
marker_fault marker = cond (eqb marker 0) (Ok tt) (Err Marker)

abbrev pub before : Result (Unit {0}) Fault → Result (Unit {0}) Fault → Result (Unit {0}) Fault
before (Err why) next = Err why
before (Ok _) next = next

abbrev pub writer_fault : Telegram → Result (Unit {0}) Fault
writer_fault t = before (tilt_fault t) (field_fault t)

abbrev pub reader_fault : ℕ → Telegram → Result (Unit {0}) Fault
reader_fault marker t = before (marker_fault marker) (tilt_fault t)

-- what the tests 14 and 15 let through
pub record TiltGood (t : Telegram) : Type 0 where
  pub small : t.tilt ≤ largest_tilt
  pub zero_level : t.tilt ≡ 0 → t.direction ≡ 1 → ⊥

-- the telegrams in which the writer finds no fault
pub record Writable (t : Telegram) : Type 0 where
  pub cylinder_small : t.cylinder ≤ largest_cylinder
  pub direction_small : t.direction ≤ largest_direction
  pub tilt_small : t.tilt ≤ largest_tilt
  pub zero_level : t.tilt ≡ 0 → t.direction ≡ 0
