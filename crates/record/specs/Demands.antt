-- Demand 1 for a record's header (checks 1, 8 and 9), for its search (these, then 3, 6 and 7) and for the writer (checks 1, 2, 4 and 3), in these
-- orders; and what a larger allowance changes. That they are met is proved in DemandsMet and WritingDemandMet.
use Rattle.std.specs.Prelude.{◌≡◌, ◌⊎◌, List, [], ◌∷◌, ℕ, suc, ◌+◌, ◌/◌, ◌%◌, ◌^◌, ◌≤◌, ◌<◌, ℤ, pos, nat_abs, length, get_or}
use Rattle.words.specs.Kinds.{dimension}
use Rattle.code.specs.declared.Refusal.TheVariants.{Parameters, InputLength, OutputLength, Entry, Torn, Pad}
use Rattle.code.specs.Sound.{largest_m, largest_record_reading, rm}
use Rattle.code.specs.Demand1.{View, Checks, passed, check, check_at, LowestBad, Demand1}
use Rattle.search.specs.Demands.{view, walk_checks}
use Rattle.packing.specs.Layout.{record_of, part_length, pad_of}
use Rattle.record.specs.Reader.{part_of, readings_of, HeaderOutcome, header_of, outcome_of}
use Rattle.record.specs.Searching.{searching_record, searching_record_with_runner_up}
use Rattle.record.specs.Writing.{WrittenOutcome, writing}

-- r and m are in the first byte; with no byte at all both read as 0, so that it is 8
abbrev pub said_r : List ℕ → ℕ
said_r s = get_or s 0 0 % 16

abbrev pub said_m : List ℕ → ℕ
said_m s = get_or s 0 0 / 16

-- the checks on the bytes, and what comes after them
abbrev pub header_checks : List ℕ → Checks → Checks
header_checks s rest =
    let r = said_r s in
    let m = said_m s in
    check Parameters ((largest_m < m) ⊎ (m < r))
    (check Torn (length s < suc (part_length m))
    (check Pad (pad_of m (part_of (rm r m) s) ≡ 0 → ⊥) rest))

-- ---- the header, to which no buffer is lent
abbrev pub header_view : HeaderOutcome → View
header_view o =
    let c = o.carry in
    record { number = c.number; place = c.place; penalty = c.penalty; gap = 0; visits = c.visits; buffers = [] }

pub record HeaderMeets (s : List ℕ) (o : HeaderOutcome) : Type 0 where
  pub checked : Demand1 (header_checks s passed) [] (header_view o)
  -- r and m of a record are those of its first byte, and 0 under every refusal
  pub said : o.carry.number ≡ 0 → (o.r ≡ said_r s) × (o.m ≡ said_m s)
  pub refused : 0 < o.carry.number → (o.r ≡ 0) × (o.m ≡ 0)

abbrev pub HeaderDemand1 : List ℕ → Type 0
HeaderDemand1 s = HeaderMeets s (outcome_of (header_of s))

-- ---- the search
abbrev pub record_checks : ℕ → List ℕ → List ℕ → List ℕ → Checks
record_checks allowed s bits word =
    let r = said_r s in
    let m = said_m s in
    header_checks s
    (check OutputLength ((length bits ≡ dimension r m) × (length word ≡ 2 ^ m) → ⊥) (walk_checks r m allowed (readings_of (rm r m) s)))

abbrev pub RecordDemand1 : ℕ → List ℕ → List ℕ → List ℕ → Type 0
RecordDemand1 allowed s bits word = Demand1 (record_checks allowed s bits word) (bits ∷ word ∷ []) (view (searching_record allowed s bits word))

-- a larger allowance changes no answer and no refusal except 6, as with the search of plain readings: numbers, buffers and runner-up stay the same
abbrev pub RecordLargerAllowance : List ℕ → List ℕ → List ℕ → Type 0
RecordLargerAllowance s bits word = (allowed more : ℕ) → allowed ≤ more
    → ((searching_record allowed s bits word).number ≡ 6 → ⊥)
    → searching_record_with_runner_up more s bits word ≡ searching_record_with_runner_up allowed s bits word

-- neither the header nor the search gives 4, whatever the bytes are
pub record Never4 (allowed : ℕ) (s bits word : List ℕ) : Type 0 where
  pub header : (outcome_of (header_of s)).carry.number ≡ 4 → ⊥
  pub search : (searching_record allowed s bits word).number ≡ 4 → ⊥

-- ---- the writer
abbrev pub written_view : WrittenOutcome → View
written_view o =
    let c = o.carry in
    record { number = c.number; place = c.place; penalty = c.penalty; gap = 0; visits = c.visits; buffers = o.buffer ∷ [] }

-- too little room from the place on (none if the place is at or beyond the end); and what comes after
abbrev pub write_checks : ℕ → ℕ → List ℤ → List ℕ → ℕ → Checks → Checks
write_checks r m l buffer place rest =
    check Parameters ((largest_m < m) ⊎ (m < r))
    (check InputLength (length l ≡ 2 ^ m → ⊥)
    (check_at Entry (LowestBad (pos 0) nat_abs largest_record_reading l)
    (check OutputLength (length buffer < place + length (record_of r m l)) rest)))

abbrev pub WriteDemand1 : ℕ → ℕ → List ℤ → List ℕ → ℕ → Type 0
WriteDemand1 r m l buffer place = Demand1 (write_checks r m l buffer place passed) (buffer ∷ []) (written_view (writing r m l buffer place))
