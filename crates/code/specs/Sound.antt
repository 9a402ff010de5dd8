-- Sound parameters, the limits, and the refusals' numbers and values (docs/RULES.md, §6).
use Rattle.std.specs.Prelude.{cond, ◌&&◌, ℕ, ◌≤◌, leb, Result, Ok, Err}
use Rattle.code.specs.declared.Code.{Code}
use Rattle.code.specs.declared.Refusal.{Refusal}
use Rattle.code.specs.declared.Refusal.TheVariants.{Parameters, InputLength, OutputLength, Entry, NotAWord, OutOfVisits, Tied, Torn, Pad}
use Rattle.code.specs.declared.Refusal.TheVariants.{NoEntry, Map, Named}

-- the limits; nothing else repeats them
abbrev pub largest_m : ℕ
largest_m = 8

abbrev pub largest_reading : ℕ
largest_reading = 32767

-- of a record, whose fields have 12 bits
abbrev pub largest_record_reading : ℕ
largest_record_reading = 2047

abbrev pub default_allowance : ℕ
default_allowance = 200000

-- 0 ≤ r ≤ m ≤ 8
pub record Sound (c : Code) : Type 0 where
  pub r_small : c.r ≤ c.m
  pub m_small : c.m ≤ largest_m

abbrev pub rm : ℕ → ℕ → Code
rm r m = record { r = r; m = m }

-- the code of r and m, refused exactly if m > 8 or r > m
unfoldable pub made : ℕ → ℕ → Result Code Refusal
made r m = cond (leb m largest_m && leb r m) (Ok (rm r m)) (Err Parameters)

-- what a refusal reports: its number, and the place, penalty and visits that it carries, 0 for those that it does not carry
pub record Carried : Type 0 where
  pub number : ℕ
  pub place : ℕ
  pub penalty : ℕ
  pub visits : ℕ

abbrev pub carrying : ℕ → ℕ → ℕ → ℕ → Carried
carrying number place penalty visits = record { number = number; place = place; penalty = penalty; visits = visits }

-- the rules' table (§6): 4 and 5 carry the place, 6 the allowance as visits, 7 the least penalty and the walk's visits
abbrev pub carried : Refusal → Carried
carried Parameters = carrying 1 0 0 0
carried InputLength = carrying 2 0 0 0
carried OutputLength = carrying 3 0 0 0
carried (Entry place) = carrying 4 place 0 0
carried (NotAWord index) = carrying 5 index 0 0
carried (OutOfVisits allowed) = carrying 6 0 0 allowed
carried (Tied penalty visits) = carrying 7 0 penalty visits
carried Torn = carrying 8 0 0 0
carried Pad = carrying 9 0 0 0
carried NoEntry = carrying 10 0 0 0
carried Map = carrying 11 0 0 0
carried Named = carrying 12 0 0 0

-- a call that is done carries nothing
abbrev pub completed : Result (Unit {0}) Refusal → Carried
completed (Ok _) = carrying 0 0 0 0
completed (Err why) = carried why

abbrev pub number_of : Refusal → ℕ
number_of why = (carried why).number
