-- Laws of stepping: when each answer of a step is given; the starts from a place on, record by record.
use Rattle.std.specs.Prelude.{◌≡◌, List, ℕ, ◌+◌, ◌≤◌, ◌<◌, length, Ok}
use Rattle.index.specs.Steps.{bytes_at, stepped, these, starts_at}

-- ---- and back: what a step that is not refused shows
pub record Goes (s : List ℕ) (at next : ℕ) : Type 0 where
  pub inside : at < length s
  pub further : at < next
  pub there : next ≤ length s
  pub by : next ≡ at + bytes_at s at

-- ---- and back: if the records from a place on are known, so is the step there
pub record Begins (s : List ℕ) (at x : ℕ) (rest : List ℕ) : Type 0 where
  pub next : ℕ
  pub first : x ≡ at
  pub step : stepped s at ≡ Ok next
  pub goes : Goes s at next
  pub others : starts_at s next ≡ these rest
