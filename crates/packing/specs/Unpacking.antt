-- What unpacking reports and leaves, for every input: 2 for a part whose length no record has, 3 for the buffer.
use Rattle.std.specs.Prelude.{List, cond, not, ℕ, suc, ℤ, length, eqb, Result, Ok, Err}
use Rattle.code.specs.Sound.{Carried, completed, largest_m}
use Rattle.code.specs.declared.Refusal.TheVariants.{InputLength, OutputLength}
use Rattle.packing.specs.Layout.{unpacked, readings_in}
use Rattle.code.specs.declared.Refusal.{Refusal}

pub record UnpackedOutcome : Type 0 where
  -- all 0 if the readings are unpacked, else what the refusal carries
  pub carry : Carried
  -- the lent buffer as the call leaves it
  pub readings : List ℤ

-- the answer in the rules' numbers
abbrev pub outcome_of : Result (Unit {0}) Refusal → List ℤ → UnpackedOutcome
outcome_of answer readings = record { carry = completed answer; readings = readings }

-- from a packed part, and the buffer for its readings
unfoldable pub unpacking : List ℕ → List ℤ → UnpackedOutcome
unpacking part readings =
    let n = readings_in (suc largest_m) (length part) in
    cond (eqb n 0) (outcome_of (Err InputLength) readings)
    (cond (not (eqb (length readings) n)) (outcome_of (Err OutputLength) readings) (outcome_of (Ok tt) (unpacked part)))
