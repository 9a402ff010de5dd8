-- What the reader of packed records answers, as functions of the bytes given (docs/RULES.md, §7).
use Rattle.std.specs.Prelude.{List, [], ◌∷◌, cond, ℕ, suc, ◌-◌, ◌/◌, ◌%◌, ℤ, length, take, drop, ltb, eqb, Result, Ok, Err}
use Rattle.code.specs.Sound.{made, Carried, carrying, carried}
use Rattle.code.specs.declared.Code.{Code}
use Rattle.code.specs.declared.Refusal.TheVariants.{Parameters, Torn, Pad}
use Rattle.packing.specs.Layout.{unpacked, part_length, pad_of}
use Rattle.code.specs.declared.Refusal.{Refusal}

-- what a first byte says: 4 bits m, 4 bits r
abbrev pub code_of : ℕ → Result Code Refusal
code_of first = made (first % 16) (first / 16)

-- how many bytes a record has by its first byte; 0 if that is refused
abbrev pub length_by : Result Code Refusal → ℕ
length_by (Err _) = 0
length_by (Ok c) = suc (part_length c.m)

-- the same as code has it, or the refusal of that byte
abbrev pub sized_by : Result Code Refusal → Result ℕ Refusal
sized_by (Err why) = Err why
sized_by (Ok c) = Ok (suc (part_length c.m))

-- the packed part of bytes s that begin with a record of the code c
abbrev pub part_of : Code → List ℕ → List ℕ
part_of c s = take (part_length c.m) (drop 1 s)

-- the readings in it
abbrev pub readings_of : Code → List ℕ → List ℤ
readings_of c s = unpacked (part_of c s)

-- 1, then 8, then 9
abbrev pub headed_by : Result Code Refusal → List ℕ → Result Code Refusal
headed_by (Err _) s = Err Parameters
headed_by (Ok c) s =
    cond (ltb (length s - 1) (part_length c.m)) (Err Torn)
    (cond (eqb (pad_of c.m (part_of c s)) 0) (Ok c) (Err Pad))

-- the code of the record that the bytes begin with, or the refusal; with no byte at all it is 8
unfoldable pub header_of : List ℕ → Result Code Refusal
header_of [] = Err Torn
header_of (first ∷ s) = headed_by (code_of first) (first ∷ s)

-- the answer in the rules' numbers: 0 for a record, otherwise the refusal's number; the values that it carries, and r and m of a record
pub record HeaderOutcome : Type 0 where
  pub carry : Carried
  pub r : ℕ
  pub m : ℕ

abbrev pub outcome_of : Result Code Refusal → HeaderOutcome
outcome_of (Ok c) = record { carry = carrying 0 0 0 0; r = c.r; m = c.m }
outcome_of (Err why) = record { carry = carried why; r = 0; m = 0 }

-- the part handed back: empty on refusal
abbrev pub part_by : Result Code Refusal → List ℕ → List ℕ
part_by (Err why) s = []
part_by (Ok c) s = part_of c s
