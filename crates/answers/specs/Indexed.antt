-- What C sees of an index: the number returned, the numbers, and what was lent.
use Rattle.std.specs.Prelude.{List, [], ◌∷◌, cond, ℕ, length, get_or, eqb, Result, Ok, Err}
use Rattle.code.specs.Sound.{carried}
use Rattle.record.specs.Reader as Reader
use Rattle.index.specs.declared.Index.{Index}
use Rattle.index.specs.Making.{IndexOutcome, index_of}
use Rattle.index.specs.Fronting.{FrontOutcome, number_in}
use Rattle.index.specs.Appending.{AppendOutcome}
use Rattle.answers.specs.Reported.{Reported, reported}
use Rattle.code.specs.declared.Code.{Code}
use Rattle.code.specs.declared.Refusal.{Refusal}
use Rattle.index.specs.declared.FrontIndex.{FrontIndex}
use Rattle.index.specs.declared.Located.{Located}

-- records and used: the header's struct
abbrev pub pair : Index → List ℕ
pair index = index.records ∷ index.used ∷ []

abbrev pub index_in : List ℕ → Index
index_in lent = index_of (get_or lent 0 0) (get_or lent 1 0)

abbrev pub shown_made : IndexOutcome → Reported
shown_made o = reported o.carry.number (pair o.index) (o.table ∷ [])

-- records, used, and the number of what ended them: the header's struct
abbrev pub front_numbers : Index → ℕ → List ℕ
front_numbers index ended = index.records ∷ index.used ∷ ended ∷ []

abbrev pub shown_front : FrontOutcome → Reported
shown_front o = reported o.made.carry.number (front_numbers o.made.index o.ended) (o.made.table ∷ [])

-- what a record says and where its packed part starts: r, m, start, length, place
abbrev pub entry_numbers : Result Code Refusal → ℕ → ℕ → List ℕ
entry_numbers h start n = let t = Reader.outcome_of h in t.r ∷ t.m ∷ start ∷ n ∷ t.carry.place ∷ []

abbrev pub shown_entry : Result Code Refusal → ℕ → List ℕ → Reported
shown_entry h start part = reported (Reader.outcome_of h).carry.number (entry_numbers h start (length part)) []

-- ---- of a record that was found, or not
abbrev pub found_number : Result Located Refusal → ℕ
found_number (Ok l) = 0
found_number (Err why) = (carried why).number

abbrev pub found_numbers : Result Located Refusal → List ℕ
found_numbers (Ok l) = entry_numbers (Ok l.code) l.start l.length
found_numbers (Err why) = entry_numbers (Err why) 0 0

-- the new end and the place under 4; the index, which stays as it is on refusal; both buffers
abbrev pub shown_appended : List ℕ → AppendOutcome → Reported
shown_appended before o =
    reported o.carry.number (o.index.used ∷ o.carry.place ∷ [])
    (cond (eqb o.carry.number 0) (pair o.index) before ∷ o.capture ∷ o.table ∷ [])

-- ---- the number of an answer, and the numbers that its values become
abbrev pub indexed_number : Result Index Refusal → ℕ
indexed_number (Ok index) = 0
indexed_number (Err why) = (carried why).number

abbrev pub made_numbers : Result Index Refusal → List ℕ
made_numbers (Ok index) = pair index
made_numbers (Err why) = 0 ∷ 0 ∷ []

abbrev pub fronted_number : Result FrontIndex Refusal → ℕ
fronted_number (Ok front) = 0
fronted_number (Err why) = (carried why).number

abbrev pub fronted_numbers : Result FrontIndex Refusal → List ℕ
fronted_numbers (Ok front) = front_numbers front.index (number_in front.ended)
fronted_numbers (Err why) = 0 ∷ 0 ∷ 0 ∷ []

abbrev pub appended_numbers : Result Index Refusal → List ℕ
appended_numbers (Ok index) = index.used ∷ 0 ∷ []
appended_numbers (Err why) = 0 ∷ (carried why).place ∷ []

abbrev pub pair_after : List ℕ → Result Index Refusal → List ℕ
pair_after before (Ok index) = pair index
pair_after before (Err why) = before
