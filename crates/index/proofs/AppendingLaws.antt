-- Laws of an append: when each answer is given.
use Rattle.std.specs.Prelude.{◌≡◌, refl, List, true, false, ℕ, suc, ◌+◌, ◌/◌, ◌%◌, ℤ, length, leb, Result, Ok, Err}
use Rattle.std.proofs.Math.Path.{ap}
use Rattle.std.proofs.Common.{sym, ◌∙◌, arith, eq-eqb, ne_eqb, leb-false}
use Rattle.code.specs.RefusalLaws.{number_above}
use Rattle.code.specs.declared.Code.{Code}
use Rattle.code.specs.declared.Refusal.{Refusal}
use Rattle.code.specs.declared.Refusal.TheVariants.{OutputLength}
use Rattle.record.specs.Writing as Writing
use Rattle.record.specs.Writing.{WrittenOutcome, writable, written_by, writing}
use Rattle.index.specs.Finding.{block}
use Rattle.index.specs.declared.Index.{Index}
use Rattle.index.specs.Making.{Room, index_of, with_entry}
use Rattle.index.specs.Appending.{AppendOutcome, append_outcome_of, largest_count, full, appended, appended_by, not_appended, appending}
use Rattle.index.specs.AppendingLaws.{Fitting}

-- ---- room for the entry and for the count
module _ (index : Index) (entries : ℕ) (free : full index entries ≡ false) where
  pub few_records : index.records ≡ largest_count → ⊥
  few_records e = let z : ◌≡◌ {A = ℕ} 0 1 = cc (eq-eqb index.records largest_count e) in omega arith

  pub free_room : Room entries index.records
  free_room z =
      let e : full index entries ≡ leb entries (index.records / block) =
      rw (ne_eqb index.records largest_count few_records, eq-eqb (index.records % block) 0 z) in
      omega (arith, leb-false entries (index.records / block) (sym e ∙ free))

module _ (index : Index) (r m : ℕ) (l : List ℤ) (d t : List ℕ) where
  pub append-refused : (why : Refusal) → Err why ≡ writable r m l (length d) index.used
      → append_outcome_of (Err why) d t ≡ appending index r m l d t
  unfolding appending
  append-refused why e = ap (λ (a : Result Code Refusal). appended_by a index r m l d t) e

  module _ (c : Code) (e : Ok c ≡ writable r m l (length d) index.used) where
    pub append-full : full index (length t) ≡ true → append_outcome_of (Err OutputLength) d t ≡ appending index r m l d t
    unfolding appending
    append-full f = rw (← e, f)

    pub append_fits : full index (length t) ≡ false → Fitting index r m l d (length t)
    unfolding writing
    append_fits f = record { writes = ap (λ (a : Result Code Refusal). (written_by a l d index.used).carry.number) (sym e); room = f }

    pub append-done : full index (length t) ≡ false → appended index r m l d t ≡ appending index r m l d t
    unfolding appending
    append-done f = rw (← e, f)

  -- ---- the three answers of the code, by the tests that the writer makes
  full_by_lem : (a : Result Code Refusal) → full index (length t) ≡ true → append_outcome_of (not_appended a) d t ≡ appended_by a index r m l d t
  full_by_lem (Err why) f = refl
  full_by_lem (Ok c) f = rw f

  pub append-none : full index (length t) ≡ true → append_outcome_of (not_appended (writable r m l (length d) index.used)) d t ≡ appending index r m l d t
  unfolding appending
  append-none f = full_by_lem (writable r m l (length d) index.used) f

  stopped_by : (why : Refusal) (d' : List ℕ) (a : Result Code Refusal) → Writing.outcome_of (Err why) d' ≡ written_by a l d index.used
      → append_outcome_of (Err why) d' t ≡ appended_by a index r m l d t
  stopped_by why d' (Err why') e =
      ap (λ (o : WrittenOutcome). record { carry = o.carry; index = index_of 0 0; capture = o.buffer; table = t }) e
  stopped_by why d' (Ok c) e = absurd (omega (arith, number_above why, ap (λ (o : WrittenOutcome). o.carry.number) e))

  pub append-stopped : (why : Refusal) (d' : List ℕ) → Writing.outcome_of (Err why) d' ≡ writing r m l d index.used
      → append_outcome_of (Err why) d' t ≡ appending index r m l d t
  unfolding appending writing
  append-stopped why d' e = stopped_by why d' (writable r m l (length d) index.used) e

  -- what is written, and its entry
  module _ (next : ℕ) (d' t' : List ℕ) (free : full index (length t) ≡ false) (entry : t' ≡ with_entry index.records index.used t) where
    abbrev written : AppendOutcome
    written = append_outcome_of (Ok (index_of (index.records + 1) next)) d' t'

    wrote-is : Writing.outcome_of (Ok next) d' ≡ writing r m l d index.used → written ≡ appended index r m l d t
    wrote-is e =
        let one : index.records + 1 ≡ suc index.records = omega arith in
        rw (one, entry) (ap (λ (o : WrittenOutcome). append_outcome_of (Ok (index_of (suc index.records) o.next))
        o.buffer (with_entry index.records index.used t)) e)

    wrote_by : (a : Result Code Refusal) → Writing.outcome_of (Ok next) d' ≡ written_by a l d index.used → written ≡ appended index r m l d t
        → written ≡ appended_by a index r m l d t
    wrote_by (Err why) e is = absurd (omega (arith, number_above why, ap (λ (o : WrittenOutcome). o.carry.number) e))
    wrote_by (Ok c) e is = rw free is

    pub append-wrote : Writing.outcome_of (Ok next) d' ≡ writing r m l d index.used → written ≡ appending index r m l d t
    unfolding appending writing
    append-wrote e = wrote_by (writable r m l (length d) index.used) e (wrote-is e)
