-- A signed number as two counts: its part above zero and its part below zero, one of which is 0.
use Rattle.std.specs.Prelude.{ℕ, suc, ℤ, pos, negsuc}

-- z where z is above 0, else 0
abbrev pub up : ℤ → ℕ
up (pos n) = n
up (negsuc n) = 0

-- -z where z is below 0, else 0
abbrev pub down : ℤ → ℕ
down (pos n) = 0
down (negsuc n) = suc n
