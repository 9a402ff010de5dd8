-- What writing a record reports and leaves, for every input: 1, 2, 4, then 3.
use Rattle.std.specs.Prelude.{List, cond, not, ℕ, suc, ◌+◌, ◌-◌, ◌^◌, ℤ, length, ltb, eqb, Result, Ok, Err}
use Rattle.numbers.specs.Laid.{laid_at}
use Rattle.code.specs.Sound.{Carried, carrying, carried, largest_record_reading, made}
use Rattle.code.specs.Entries.{first_bad_reading}
use Rattle.code.specs.Admitted.{if_made}
use Rattle.code.specs.declared.Code.{Code}
use Rattle.code.specs.declared.Refusal.TheVariants.{InputLength, OutputLength, Entry}
use Rattle.packing.specs.Layout.{record_of, part_length}
use Rattle.code.specs.declared.Refusal.{Refusal}

pub record WrittenOutcome : Type 0 where
  -- all 0 if the record is written, else what the refusal carries
  pub carry : Carried
  -- the place after the record; 0 if refused
  pub next : ℕ
  -- the lent buffer as the call leaves it
  pub buffer : List ℕ

-- the answer in the rules' numbers
abbrev pub outcome_of : Result ℕ Refusal → List ℕ → WrittenOutcome
outcome_of (Ok next) buffer = record { carry = carrying 0 0 0 0; next = next; buffer = buffer }
outcome_of (Err why) buffer = record { carry = carried why; next = 0; buffer = buffer }

-- for a code: the readings l, and a record in a buffer of this many bytes from the place on
abbrev pub writable_by : Code → List ℤ → ℕ → ℕ → Result Code Refusal
writable_by c l bytes place =
    let bad = first_bad_reading largest_record_reading l in
    cond (not (eqb (length l) (2 ^ c.m))) (Err InputLength)
    (cond (ltb bad (length l)) (Err (Entry bad))
    (cond (ltb (bytes - place) (suc (part_length c.m))) (Err OutputLength) (Ok c)))

unfoldable pub writable : ℕ → ℕ → List ℤ → ℕ → ℕ → Result Code Refusal
writable r m l bytes place = if_made (made r m) (λ c. writable_by c l bytes place)

abbrev pub written_by : Result Code Refusal → List ℤ → List ℕ → ℕ → WrittenOutcome
written_by (Err why) l buffer place = outcome_of (Err why) buffer
written_by (Ok c) l buffer place =
    let new = record_of c.r c.m l in outcome_of (Ok (place + length new)) (laid_at place new buffer)

-- from r, m, the readings, the buffer and the place
unfoldable pub writing : ℕ → ℕ → List ℤ → List ℕ → ℕ → WrittenOutcome
writing r m l buffer place = written_by (writable r m l (length buffer) place) l buffer place
