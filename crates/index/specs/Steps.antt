-- Stepping over the records of a capture, by first bytes and lengths only, and where they start (docs/RULES.md, §14).
use Rattle.std.specs.Prelude.{List, [], ◌∷◌, cond, ℕ, zero, suc, ◌+◌, ◌-◌, length, get_or, leb, ltb, eqb, Result, Ok, Err}
use Rattle.code.specs.declared.Refusal.{Refusal}
use Rattle.code.specs.declared.Refusal.TheVariants.{Parameters, Torn}
use Rattle.record.specs.Reader.{code_of, length_by}

-- how many bytes the record that starts at this place has; 0 if its first byte is refused
abbrev pub bytes_at : List ℕ → ℕ → ℕ
bytes_at s at = length_by (code_of (get_or s at 0))

-- the place after that record, or why there is none: 8 with no byte there, 1, then 8 for a record that is not whole
unfoldable pub stepped : List ℕ → ℕ → Result ℕ Refusal
stepped s at =
    cond (leb (length s) at) (Err Torn)
    (cond (eqb (bytes_at s at) 0) (Err Parameters)
    (cond (ltb (length s - at) (bytes_at s at)) (Err Torn) (Ok (at + bytes_at s at))))

abbrev pub onward : Result ℕ Refusal → (ℕ → Result ℕ Refusal) → Result ℕ Refusal
onward (Err why) f = Err why
onward (Ok next) f = f next

-- the place after this many records from this place
unfoldable pub passed : List ℕ → ℕ → ℕ → Result ℕ Refusal
passed s zero at = Ok at
passed s (suc count) at = onward (stepped s at) (λ next. passed s count next)

-- where all records start, or the refusal that is met first
pub data Starts : Type 0 where
  these : List ℕ → Starts
  refused : Refusal → Starts

abbrev pub and_these : ℕ → Starts → Starts
and_these at (these l) = these (at ∷ l)
and_these at (refused why) = refused why

abbrev pub starts_after : ℕ → Result ℕ Refusal → (ℕ → Starts) → Starts
starts_after at (Err why) f = refused why
starts_after at (Ok next) f = and_these at (f next)

-- from this place to the capture's end; k records at most
unfoldable pub starts_from : ℕ → List ℕ → ℕ → Starts
starts_from zero s at = these []
starts_from (suc k) s at = cond (eqb at (length s)) (these []) (starts_after at (stepped s at) (λ next. starts_from k s next))

-- a record has at least one byte
abbrev pub starts_at : List ℕ → ℕ → Starts
starts_at s at = starts_from (length s) s at

abbrev pub starts_of : List ℕ → Starts
starts_of s = starts_at s 0
