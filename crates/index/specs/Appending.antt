-- What an append reports and leaves, for every input: 1, 2, 4, then 3 for either buffer (docs/RULES.md, §14).
use Rattle.std.specs.Prelude.{List, Bool, true, false, cond, ℕ, suc, ◌/◌, ◌%◌, ℤ, length, leb, eqb, Result, Ok, Err}
use Rattle.code.specs.Sound.{Carried, carrying, carried}
use Rattle.code.specs.declared.Refusal.TheVariants.{OutputLength}
use Rattle.record.specs.Writing.{writable, writing}
use Rattle.index.specs.declared.Index.{Index}
use Rattle.index.specs.Finding.{block}
use Rattle.index.specs.Making.{index_of, with_entry}
use Rattle.code.specs.declared.Code.{Code}
use Rattle.code.specs.declared.Refusal.{Refusal}

pub record AppendOutcome : Type 0 where
  -- all 0 if the record is written, else what the refusal carries
  pub carry : Carried
  -- the index after it; 0 and 0 if refused
  pub index : Index
  -- both lent buffers as the call leaves them
  pub capture : List ℕ
  pub table : List ℕ

-- the answer in the rules' numbers
abbrev pub append_outcome_of : Result Index Refusal → List ℕ → List ℕ → AppendOutcome
append_outcome_of (Ok index) capture table = record { carry = carrying 0 0 0 0; index = index; capture = capture; table = table }
append_outcome_of (Err why) capture table = record { carry = carried why; index = index_of 0 0; capture = capture; table = table }

-- the largest number that a count of records can be; no capture has that many
abbrev pub largest_count : ℕ
largest_count = 18446744073709551615

-- a table of this many entries has no room for the entry of one more record, or the count cannot grow
abbrev pub full : Index → ℕ → Bool
full index entries =
    cond (eqb index.records largest_count) true (cond (eqb (index.records % block) 0) (leb entries (index.records / block)) false)

-- the writer of records at the end of the used part, and the new record's entry if it has one
abbrev pub appended : Index → ℕ → ℕ → List ℤ → List ℕ → List ℕ → AppendOutcome
appended index r m l capture table =
    let wrote = writing r m l capture index.used in
    append_outcome_of (Ok (index_of (suc index.records) wrote.next)) wrote.buffer (with_entry index.records index.used table)

abbrev pub appended_by : Result Code Refusal → Index → ℕ → ℕ → List ℤ → List ℕ → List ℕ → AppendOutcome
appended_by (Err why) index r m l capture table = append_outcome_of (Err why) capture table
appended_by (Ok c) index r m l capture table =
    cond (full index (length table)) (append_outcome_of (Err OutputLength) capture table) (appended index r m l capture table)

-- from the index, r, m, the readings, the capture's buffer and the table
unfoldable pub appending : Index → ℕ → ℕ → List ℤ → List ℕ → List ℕ → AppendOutcome
appending index r m l capture table = appended_by (writable r m l (length capture) index.used) index r m l capture table

-- ---- in steps, as code makes it
-- with no room for the entry: the writer's own refusal, or 3
abbrev pub not_appended : Result Code Refusal → Result Index Refusal
not_appended (Ok c) = Err OutputLength
not_appended (Err why) = Err why
