-- Laws of making: the entries one by one from the front of the table.
use Rattle.std.specs.Prelude.{◌≡◌, List, ℕ, ◌≤◌, length, drop}
use Rattle.numbers.specs.Front.{front}
use Rattle.index.specs.Steps.{these, starts_at, starts_of}
use Rattle.index.specs.Making.{entries_of, entries_for, list_of}

-- ---- the entries, one by one
-- after w records, the next of which starts at this place
pub record Entering (s before : List ℕ) (at w : ℕ) (now : List ℕ) : Type 0 where
  pub inside : at ≤ length s
  pub few : w ≤ at
  pub left : starts_at s at ≡ these (drop w (list_of (starts_of s)))
  pub some : w ≤ length (list_of (starts_of s))
  pub enough : length (entries_of (list_of (starts_of s))) ≤ length before
  pub same : length now ≡ length before
  pub is : now ≡ front before (entries_of (list_of (starts_of s))) (entries_for w)
