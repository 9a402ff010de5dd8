-- What C sees of writing a record: the number returned, the place after the record and the place under 4, and the buffer.
use Rattle.std.specs.Prelude.{List, [], ◌∷◌, ℕ, Result, Ok, Err}
use Rattle.code.specs.Sound.{carried}
use Rattle.record.specs.Writing.{WrittenOutcome}
use Rattle.answers.specs.Reported.{Reported, reported}
use Rattle.code.specs.declared.Refusal.{Refusal}

abbrev pub shown_wrote : WrittenOutcome → Reported
shown_wrote o = reported o.carry.number (o.next ∷ o.carry.place ∷ []) (o.buffer ∷ [])

-- ---- the number of an answer, and the numbers that its values become
abbrev pub wrote_number : Result ℕ Refusal → ℕ
wrote_number (Ok k) = 0
wrote_number (Err why) = (carried why).number

abbrev pub wrote_numbers : Result ℕ Refusal → List ℕ
wrote_numbers (Ok k) = k ∷ 0 ∷ []
wrote_numbers (Err why) = 0 ∷ (carried why).place ∷ []
