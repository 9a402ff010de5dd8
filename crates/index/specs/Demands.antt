-- Demand 1 of finding a record by its number, of making a table and of appending (docs/RULES.md, §14): what each refuses, exactly when, and in which order.
-- That it is met is proved in DemandsMet and MakingDemandsMet.
use Rattle.std.specs.Prelude.{◌≡◌, ◌⊎◌, List, [], ◌∷◌, ℕ, ◌/◌, ◌%◌, ◌≤◌, ◌<◌, ℤ, length, get_or, drop, Result, Ok, Err}
use Rattle.code.specs.declared.Refusal.{Refusal}
use Rattle.code.specs.declared.Refusal.TheVariants.{Parameters, OutputLength, Torn, NoEntry}
use Rattle.code.specs.Demand1.{View, Checks, passed, check, Demand1}
use Rattle.record.specs.Reader.{outcome_of}
use Rattle.record.specs.Demands.{header_checks, header_view, write_checks}
use Rattle.index.specs.declared.Index.{Index}
use Rattle.index.specs.Steps as Steps
use Rattle.index.specs.Finding.{block, header_in, part_in, part_start}
use Rattle.index.specs.Making.{entries_of, index_of, IndexOutcome, making, list_of}
use Rattle.index.specs.Appending.{AppendOutcome, largest_count, appending}

-- ---- finding: 10 and 8 for the table's entry, 1 and 8 as met in stepping, 10 at the end, then the checks of the record's header
-- the place that stepping has led to
abbrev pub place_of : Result ℕ Refusal → ℕ
place_of (Ok p) = p
place_of (Err why) = 0

-- led is where stepping leads from the entry of w
abbrev pub stepping_checks : List ℕ → Result ℕ Refusal → Checks
stepping_checks s led =
    check Parameters (led ≡ Err Parameters)
    (check Torn (led ≡ Err Torn)
    (check NoEntry (led ≡ Ok (length s)) (header_checks (drop (place_of led) s) passed)))

abbrev pub find_checks : List ℕ → List ℕ → ℕ → Checks
find_checks s table w =
    let entry = get_or table (w / block) 0 in
    check NoEntry (length table ≤ w / block)
    (check Torn (length s ≤ entry) (stepping_checks s (Steps.passed s (w % block) entry)))

pub record FindDemand1 (s table : List ℕ) (w : ℕ) : Type 0 where
  pub checked : Demand1 (find_checks s table w) [] (header_view (outcome_of (header_in s table w)))
  -- under every refusal r and m are 0, the part is empty, and its start is 0
  pub unsaid : let o = outcome_of (header_in s table w) in 0 < o.carry.number → (o.r ≡ 0) × (o.m ≡ 0)
  pub no_part : 0 < (outcome_of (header_in s table w)).carry.number → (part_in s table w ≡ []) × (part_start s table w ≡ 0)

-- ---- making: 1 or 8, whichever is met first in the whole capture, then 3
abbrev pub made_view : IndexOutcome → View
made_view o =
    let c = o.carry in
    record { number = c.number; place = c.place; penalty = c.penalty; gap = 0; visits = c.visits; buffers = o.table ∷ [] }

-- stepping from a place passes this many records, and the next one, before the capture's end, is refused
pub record MetFrom (s : List ℕ) (from : ℕ) (why : Refusal) : Type 0 where
  pub count : ℕ
  pub place : ℕ
  pub led : Steps.passed s count from ≡ Ok place
  pub inside : place < length s
  pub refuses : Steps.stepped s place ≡ Err why

-- only one of the first two can be met; the third is too few entries for the records of a whole capture
abbrev pub make_checks : List ℕ → List ℕ → Checks
make_checks s table =
    check Parameters (MetFrom s 0 Parameters)
    (check Torn (MetFrom s 0 Torn)
    (check OutputLength (length table < length (entries_of (list_of (Steps.starts_of s)))) passed))

pub record MakeDemand1 (s table : List ℕ) : Type 0 where
  pub checked : Demand1 (make_checks s table) (table ∷ []) (made_view (making s table))
  -- under every refusal the index is 0 and 0
  pub unsaid : 0 < (making s table).carry.number → (making s table).index ≡ index_of 0 0

-- ---- appending: as the writer, 1, 2, 4 and 3, then 3 for the table
abbrev pub appended_view : AppendOutcome → View
appended_view o =
    let c = o.carry in
    record { number = c.number; place = c.place; penalty = c.penalty; gap = 0; visits = c.visits; buffers = o.capture ∷ o.table ∷ [] }

-- the count of records cannot grow, or the record has an entry for which the table has no room
abbrev pub NoRoom : Index → List ℕ → Type 0
NoRoom index table = let n = index.records in (n ≡ largest_count) ⊎ ((n % block ≡ 0) × (length table ≤ n / block))

abbrev pub entry_checks : Index → List ℕ → Checks
entry_checks index table = check OutputLength (NoRoom index table) passed

-- the writer's place is the end of the used part
abbrev pub append_checks : Index → ℕ → ℕ → List ℤ → List ℕ → List ℕ → Checks
append_checks index r m l capture table = write_checks r m l capture index.used (entry_checks index table)

pub record AppendDemand1 (index : Index) (r m : ℕ) (l : List ℤ) (capture table : List ℕ) : Type 0 where
  pub checked : Demand1 (append_checks index r m l capture table) (capture ∷ table ∷ []) (appended_view (appending index r m l capture table))
  -- under every refusal the index is 0 and 0
  pub unsaid : 0 < (appending index r m l capture table).carry.number → (appending index r m l capture table).index ≡ index_of 0 0
