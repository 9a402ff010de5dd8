-- What the program writes for the bytes of its input (docs/RULES.md, §8).
use Rattle.std.specs.Prelude as std
use Rattle.std.specs.Prelude.{List, [], ◌∷◌, ◌++◌, Bool, true, false, cond, ◌||◌, ℕ, zero, suc, ◌+◌, length, get_or, drop, eqb, Ok, Err}
use Rattle.words.specs.Kinds.{kinds}
use Rattle.decoding.specs.Answer.{Answer, found, tied, out_of_visits, answer}
use Rattle.code.specs.Sound.{number_of}
use Rattle.code.specs.declared.Refusal.{Refusal}
use Rattle.code.specs.declared.Refusal.TheVariants.{OutOfVisits, Tied}
use Rattle.record.specs.Reader.{code_of, length_by, readings_of, header_of}
use Rattle.lines.specs.Line.{answer_line, refused_line, total_line}
use Rattle.code.specs.declared.Code.{Code}

-- the allowance that the program names
abbrev pub allowance : ℕ
allowance = 1000000

-- what becomes of a record: information bits, penalty, gap and visits; or why it is refused
pub data Result : Type 0 where
  answered : List ℕ → ℕ → ℕ → ℕ → Result
  refused : Refusal → Result

abbrev pub searched : Answer → Result
searched (found bits word penalty gap visits) = answered bits penalty gap visits
searched (tied penalty visits) = refused (Tied penalty visits)
searched out_of_visits = refused (OutOfVisits allowance)

abbrev pub headed : std.Result Code Refusal → List ℕ → Result
headed (Err why) s = refused why
headed (Ok c) s = searched (answer c.m (kinds c.r c.m) (readings_of c s) allowance)

-- of the record that the bytes s begin with
unfoldable pub result_of : List ℕ → Result
result_of s = headed (header_of s) s

-- the line of record w
abbrev pub line_of : ℕ → Result → List ℕ
line_of w (answered bits penalty gap visits) = answer_line w bits penalty gap visits
line_of w (refused why) = refused_line w (number_of why)

-- after 1 or 8 the next start isn't known
abbrev pub stops : Result → Bool
stops (answered bits penalty gap visits) = false
stops (refused why) = eqb (number_of why) 1 || eqb (number_of why) 8

abbrev pub is_answered : Result → Bool
is_answered (answered bits penalty gap visits) = true
is_answered (refused why) = false

-- where the next record starts
abbrev pub next_start : List ℕ → ℕ
next_start s = length_by (code_of (get_or s 0 0))

-- the lines from record answers + refusals on, of the bytes that are left; k records at most
unfoldable pub output_from : ℕ → ℕ → ℕ → List ℕ → List ℕ
output_from zero answers refusals s = total_line answers refusals
output_from (suc k) answers refusals [] = total_line answers refusals
output_from (suc k) answers refusals (first ∷ rest) =
    let s = first ∷ rest in
    let result = result_of s in
    let answers' = cond (is_answered result) (suc answers) answers in
    let refusals' = cond (is_answered result) refusals (suc refusals) in
    line_of (answers + refusals) result ++ cond (stops result) (total_line answers' refusals') (output_from k answers' refusals' (drop (next_start s) s))

-- a record has at least one byte
unfoldable pub output : List ℕ → List ℕ
output s = output_from (length s) 0 0 s
