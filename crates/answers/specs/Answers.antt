-- The number of each answer, and the numbers that its values become. No contract of an export needs them.
use Rattle.std.specs.Prelude.{List, ℕ, Result, Ok, Err}
use Rattle.code.specs.Sound.{carried}
use Rattle.record.specs.Reader as Reader
use Rattle.answers.specs.Reported.{numbers}
use Rattle.code.specs.declared.Code.{Code}
use Rattle.code.specs.declared.Refusal.{Refusal}
use Rattle.search.specs.declared.Found.{Found}

-- ---- of a header, beside a packed part of this many bytes
abbrev pub header_number : Result Code Refusal → ℕ
header_number h = (Reader.outcome_of h).carry.number

abbrev pub header_numbers : Result Code Refusal → ℕ → List ℕ
header_numbers h n = let t = Reader.outcome_of h in numbers t.r t.m n t.carry.place

-- ---- of a quick reading's answer
abbrev pub read_number : Result ℕ Refusal → ℕ
read_number (Ok penalty) = 0
read_number (Err why) = (carried why).number

abbrev pub read_numbers : Result ℕ Refusal → List ℕ
read_numbers (Ok penalty) = numbers penalty 0 0 0
read_numbers (Err why) = let c = carried why in numbers c.penalty 0 0 c.place

-- ---- of a search's answer
abbrev pub searched_number : Result Found Refusal → ℕ
searched_number (Ok found) = 0
searched_number (Err why) = (carried why).number

abbrev pub searched_numbers : Result Found Refusal → List ℕ
searched_numbers (Ok found) = numbers found.penalty found.gap found.visits 0
searched_numbers (Err why) = let c = carried why in numbers c.penalty 0 c.visits c.place
