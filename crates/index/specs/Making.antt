-- What making an index reports and leaves, for every input: 1 or 8, whichever is met first, then 3 (docs/RULES.md, §14).
use Rattle.std.specs.Prelude.{◌≡◌, List, [], ◌∷◌, ◌++◌, cond, ℕ, zero, suc, ◌+◌, ◌-◌, ◌/◌, ◌%◌, ◌≤◌, ◌<◌, length, drop, set, ltb, eqb, Result, Ok, Err}
use Rattle.code.specs.Sound.{Carried, carrying, carried}
use Rattle.code.specs.declared.Refusal.TheVariants.{OutputLength}
use Rattle.index.specs.declared.Index.{Index}
use Rattle.index.specs.Steps.{Starts, these, refused, starts_of}
use Rattle.index.specs.Finding.{block}
use Rattle.code.specs.declared.Refusal.{Refusal}

-- of all starts, the first and every 16th after it; k are skipped first
abbrev pub every : ℕ → List ℕ → List ℕ
every k [] = []
every zero (at ∷ l) = at ∷ every (block - 1) l
every (suc k) (at ∷ l) = every k l

abbrev pub entries_of : List ℕ → List ℕ
entries_of l = every 0 l

abbrev pub index_of : ℕ → ℕ → Index
index_of records used = record { records = records; used = used }

pub record IndexOutcome : Type 0 where
  -- all 0 if the index is made, else what the refusal carries
  pub carry : Carried
  -- 0 and 0 if refused
  pub index : Index
  -- the lent table as the call leaves it
  pub table : List ℕ

-- the answer in the rules' numbers
abbrev pub outcome_of : Result Index Refusal → List ℕ → IndexOutcome
outcome_of (Ok index) table = record { carry = carrying 0 0 0 0; index = index; table = table }
outcome_of (Err why) table = record { carry = carried why; index = index_of 0 0; table = table }

abbrev pub made_by : Starts → List ℕ → List ℕ → IndexOutcome
made_by (refused why) s table = outcome_of (Err why) table
made_by (these l) s table =
    let made = entries_of l in
    cond (ltb (length table) (length made)) (outcome_of (Err OutputLength) table)
    (outcome_of (Ok (index_of (length l) (length s))) (made ++ drop (length made) table))

-- from the capture and the table
unfoldable pub making : List ℕ → List ℕ → IndexOutcome
making s table = made_by (starts_of s) s table

-- ---- in steps, as code makes it
-- the number of records after n others
abbrev pub counted : ℕ → Starts → Result ℕ Refusal
counted n (these l) = Ok (n + length l)
counted n (refused why) = Err why

abbrev pub entries_for : ℕ → ℕ
entries_for records = records / block + (records % block + (block - 1)) / block

-- the entry of record w, if it has one, and a table with room for it
abbrev pub Room : ℕ → ℕ → Type 0
Room entries w = w % block ≡ 0 → w / block < entries

abbrev pub with_entry : ℕ → ℕ → List ℕ → List ℕ
with_entry w start table = cond (eqb (w % block) 0) (set table (w / block) start) table

abbrev pub list_of : Starts → List ℕ
list_of (these l) = l
list_of (refused why) = []

-- a capture of whole records, and room for its entries
pub record Enterable (s : List ℕ) (room : ℕ) : Type 0 where
  pub whole : starts_of s ≡ these (list_of (starts_of s))
  pub enough : length (entries_of (list_of (starts_of s))) ≤ room

abbrev pub entered : List ℕ → List ℕ → List ℕ
entered s table = let made = entries_of (list_of (starts_of s)) in made ++ drop (length made) table
