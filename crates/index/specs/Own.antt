-- What is promised for a capture's own table, and for any table (docs/RULES.md, §14). Proved in OwnMet, AppendMet, BelongsMet and InUseMet.
use Rattle.std.specs.Prelude.{◌≡◌, List, ◌++◌, ℕ, ◌/◌, ◌≤◌, ◌<◌, length, take, Ok, Err}
use Rattle.code.specs.declared.Refusal.TheVariants.{Torn, NoEntry}
use Rattle.index.specs.declared.Index.{Index}
use Rattle.index.specs.Steps.{these, starts_of}
use Rattle.index.specs.Finding.{block, start_in, from_beginning, header_at, part_at, header_in, part_in}
use Rattle.index.specs.Making.{entries_of, outcome_of, making, list_of}
use Rattle.index.specs.Appending.{AppendOutcome}

-- a capture of whole records, and the entries that are made from it
pub record Own (s table : List ℕ) : Type 0 where
  pub whole : starts_of s ≡ these (list_of (starts_of s))
  pub own : table ≡ entries_of (list_of (starts_of s))

-- with it, record w is found as by stepping from the beginning
pub record FoundAlike (s table : List ℕ) (w : ℕ) : Type 0 where
  -- the part, for every w
  pub part : part_in s table w ≡ part_at s (from_beginning s w)
  -- and the header with its refusal, wherever the table has an entry for w
  pub header : w / block < length table → header_in s table w ≡ header_at s (from_beginning s w)
  -- past the last block the table gives 10; stepping gives 10 for the first record that is not there, and 8 for all others
  pub past : length table ≤ w / block → start_in s table w ≡ Err NoEntry
  pub first_past : w ≡ length (list_of (starts_of s)) → from_beginning s w ≡ Err NoEntry
  pub later_past : length (list_of (starts_of s)) < w → from_beginning s w ≡ Err Torn

-- whatever the table is, what is handed back is a part of the capture
pub record PartOf (s part : List ℕ) : Type 0 where
  pub before : List ℕ
  pub after : List ℕ
  pub whole : s ≡ before ++ (part ++ after)

-- an index and a table that belong to the used part of a lent buffer; entries past its own may be anything
pub record Belongs (index : Index) (capture table : List ℕ) : Type 0 where
  pub inside : index.used ≤ length capture
  pub whole : starts_of (take index.used capture) ≡ these (list_of (starts_of (take index.used capture)))
  pub count : index.records ≡ length (list_of (starts_of (take index.used capture)))
  pub entries : let own = entries_of (list_of (starts_of (take index.used capture))) in take (length own) table ≡ own

-- in its used part each record that it counts is found as by stepping from the beginning
pub record FoundInUse (index : Index) (capture table : List ℕ) (w : ℕ) : Type 0 where
  pub header : let s = take index.used capture in header_in s table w ≡ header_at s (from_beginning s w)
  pub part : let s = take index.used capture in part_in s table w ≡ part_at s (from_beginning s w)

-- what an append leaves is what is made from the longer capture
abbrev pub MadeAfresh : AppendOutcome → List ℕ → Type 0
MadeAfresh o table = making (take o.index.used o.capture) table ≡ outcome_of (Ok o.index) o.table
