-- What finding a record by its number gives, whatever table is passed (docs/RULES.md, §14).
use Rattle.std.specs.Prelude.{List, [], cond, ℕ, ◌+◌, ◌/◌, ◌%◌, length, get_or, drop, leb, eqb, Result, Ok, Err}
use Rattle.code.specs.declared.Refusal.TheVariants.{Torn, NoEntry}
use Rattle.record.specs.Reader.{header_of, part_by}
use Rattle.index.specs.declared.Located.{Located}
use Rattle.index.specs.Steps.{passed}
use Rattle.code.specs.declared.Code.{Code}
use Rattle.code.specs.declared.Refusal.{Refusal}

-- how many records share an entry
abbrev pub block : ℕ
block = 16

-- a place right at the capture's end is no start: 10
abbrev pub as_start : List ℕ → Result ℕ Refusal → Result ℕ Refusal
as_start s (Err why) = Err why
as_start s (Ok start) = cond (eqb start (length s)) (Err NoEntry) (Ok start)

-- where record w starts: 10 without an entry, 8 for an entry at or past the end, then 1 and 8 as met in stepping
unfoldable pub start_in : List ℕ → List ℕ → ℕ → Result ℕ Refusal
start_in s table w =
    let entry = get_or table (w / block) 0 in
    cond (leb (length table) (w / block)) (Err NoEntry)
    (cond (leb (length s) entry) (Err Torn) (as_start s (passed s (w % block) entry)))

-- stepping from the beginning, without a table
abbrev pub from_beginning : List ℕ → ℕ → Result ℕ Refusal
from_beginning s w = as_start s (passed s w 0)

-- the header of the record that starts there: then 1, 8 and 9 of the record asked for
abbrev pub header_at : List ℕ → Result ℕ Refusal → Result Code Refusal
header_at s (Err why) = Err why
header_at s (Ok start) = header_of (drop start s)

-- and its packed part: empty on refusal
abbrev pub part_at : List ℕ → Result ℕ Refusal → List ℕ
part_at s (Err why) = []
part_at s (Ok start) = part_by (header_of (drop start s)) (drop start s)

abbrev pub header_in : List ℕ → List ℕ → ℕ → Result Code Refusal
header_in s table w = header_at s (start_in s table w)

abbrev pub part_in : List ℕ → List ℕ → ℕ → List ℕ
part_in s table w = part_at s (start_in s table w)

-- where that part starts in the capture: after the record's first byte; 0 on refusal
abbrev pub part_after : Result Code Refusal → ℕ → ℕ
part_after (Err why) start = 0
part_after (Ok c) start = start + 1

abbrev pub part_start_at : List ℕ → Result ℕ Refusal → ℕ
part_start_at s (Err why) = 0
part_start_at s (Ok start) = part_after (header_of (drop start s)) start

abbrev pub part_start : List ℕ → List ℕ → ℕ → ℕ
part_start s table w = part_start_at s (start_in s table w)

-- all of it: what the record says, where its packed part starts in the capture, and how long that is
abbrev pub located_by : Result Code Refusal → ℕ → ℕ → Result Located Refusal
located_by (Err why) start length = Err why
located_by (Ok c) start length = Ok (record { code = c; start = start; length = length })

abbrev pub located_at : List ℕ → Result ℕ Refusal → Result Located Refusal
located_at s p = located_by (header_at s p) (part_start_at s p) (length (part_at s p))

abbrev pub located_in : List ℕ → List ℕ → ℕ → Result Located Refusal
located_in s table w = located_at s (start_in s table w)
