-- The version of the calls, and lengths as C asks for them: 0 if the code, or the first byte of a record, is refused.
use Rattle.std.specs.Prelude.{cond, ℕ, ◌^◌, ltb, Result, Ok, Err}
use Rattle.words.specs.Kinds.{dimension}
use Rattle.record.specs.Reader.{code_of, length_by}
use Rattle.code.specs.declared.Code.{Code}
use Rattle.code.specs.declared.Refusal.{Refusal}

-- raised when a call is added or changed; the header has it too
abbrev pub version : ℕ
version = 17

-- n
abbrev pub length_in : Result Code Refusal → ℕ
length_in (Err _) = 0
length_in (Ok c) = 2 ^ c.m

-- k
abbrev pub dimension_in : Result Code Refusal → ℕ
dimension_in (Err _) = 0
dimension_in (Ok c) = dimension c.r c.m

-- how many bytes a record has, by its first; a number above 255 is not a byte
abbrev pub record_length : ℕ → ℕ
record_length first = cond (ltb 255 first) 0 (length_by (code_of first))
