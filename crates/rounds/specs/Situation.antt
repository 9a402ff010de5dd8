-- The program's state between two rounds, and what each kind of round does to it. The functions of the code are equal to these.
use Rattle.std.specs.Prelude.{◌≡◌, List, [], Bool, true, false, cond, not, ℕ, zero, suc, ◌+◌}
use Rattle.std.specs.Prelude.{◌-◌, ◌≤◌, min, Option, None, Some, length, get_or, take, drop, ltb}
use Rattle.std.specs.Prelude.{leb, eqb}
use Rattle.record.specs.Reader.{code_of, length_by}
use Rattle.rounds.specs.declared.Situation.{Situation}
use Rattle.rounds.specs.declared.Next.{Next}
use Rattle.rounds.specs.declared.Next.TheVariants.{Write, Take, Total, Read}
use Rattle.program.specs.declared.Step.{Step}
use Rattle.program.specs.declared.Became.{Became}
use Rattle.program.specs.declared.Became.TheVariants as became
use Rattle.lines.specs.Line.{total_line, Put}
use Rattle.program.specs.Program.{Result, answered, refused, result_of, line_of, stops, next_start}

-- the longest line fits into this many bytes, and the longest record into these
abbrev pub room : ℕ
room = 512

abbrev pub longest : ℕ
longest = 385

-- nothing is read yet, and nothing waits
abbrev pub starting : Situation
starting = record { at = 0; «end» = 0; ended = false; text = 0; read = 0; refused = 0; closed = false; going = true; failed = false }

-- the parts that are in use are within their buffers
pub record Ready (s : Situation) (input output : List ℕ) : Type 0 where
  pub order : s.at ≤ s.«end»
  pub within : s.«end» ≤ length input
  pub waiting : s.text ≤ length output

-- the bytes that are read and not yet used
abbrev pub unread : Situation → List ℕ → List ℕ
unread s input = take (s.«end» - s.at) (drop s.at input)

-- the text that waits to be written
abbrev pub text_of : Situation → List ℕ → List ℕ
text_of s output = take s.text output

-- the next record is there, or all that will come of it
abbrev pub is_there : Situation → List ℕ → Bool
is_there s input =
    cond (eqb s.at s.«end») false (cond s.ended true (leb (length_by (code_of (get_or input s.at 0))) (s.«end» - s.at)))

-- What waits is written after the total, and when the longest line might not fit into the output's n bytes. Else a record that is there is taken; after
-- the last one comes the total; and what waits is written before the program waits for input.
abbrev pub next_of : Situation → List ℕ → ℕ → Next
next_of s input n =
    cond s.closed Write (cond (ltb (n - s.text) room) Write
    (cond (is_there s input) Take (cond s.ended Total (cond (ltb 0 s.text) Write Read))))

-- s with the bytes from `at` on still to be used, maybe the last, and with this text and these counts
abbrev pub counted : Situation → ℕ → Bool → ℕ → ℕ → ℕ → Situation
counted s at ended text answers refusals = record s { at = at; ended = ended; text = text; read = answers; refused = refusals }

-- after a record with this result, whose line ends at text and after which the next one starts at `at`: no byte is used if no next start is known
abbrev pub after : Situation → Result → ℕ → ℕ → Situation
after s (answered bits penalty gap visits) text at = counted s at s.ended text (s.read + 1) s.refused
after s (refused why) text at =
    cond (stops (refused why)) (counted s s.«end» true text s.read (s.refused + 1)) (counted s at s.ended text s.read (s.refused + 1))

-- the same by what the work on the record reports
abbrev pub counted_as : Situation → ℕ → Became → Situation
counted_as s next became.Answered = counted s next s.ended s.text (s.read + 1) s.refused
counted_as s next became.Refused = counted s next s.ended s.text s.read (s.refused + 1)
counted_as s next became.Last = counted s s.«end» true s.text s.read (s.refused + 1)

abbrev pub counted_by : Situation → Step → Situation
counted_by s step = counted_as s (s.at + step.taken) step.became

-- the next record is taken: its line comes after the text, and it is counted
pub record Took (s : Situation) (input output : List ℕ) (t : Situation) (output' : List ℕ) : Type 0 where
  pub line : Put output s.text (line_of (s.read + s.refused) (result_of (unread s input))) t.text output'
  pub counts : t ≡ after s (result_of (unread s input)) t.text (s.at + next_start (unread s input))

-- s with this much text, and whether the total is in it, the program goes on, and an error was met
abbrev pub texted : Situation → ℕ → Bool → Bool → Bool → Situation
texted s text closed going failed = record s { text = text; closed = closed; going = going; failed = failed }

-- the total comes after the text
pub record Finished (s : Situation) (output : List ℕ) (t : Situation) (output' : List ℕ) : Type 0 where
  pub line : Put output s.text (total_line s.read s.refused) t.text output'
  pub closes : t ≡ texted s t.text true s.going s.failed

-- after the text was handed to the writer, by whether all was written: after the total that is the end, as is an error
abbrev pub after_write : Bool → Situation → Situation
after_write true s = texted s 0 s.closed (not s.closed) s.failed
after_write false s = texted s 0 s.closed false true

pub record Flushed (s : Situation) (t : Situation) : Type 0 where
  pub done : Bool
  pub is : t ≡ after_write done s

-- s with its unread bytes at the front, and those after them, up to n
abbrev pub moved : Situation → ℕ → Bool → Bool → Bool → Situation
moved s n ended going failed = record s { at = 0; «end» = n; ended = ended; going = going; failed = failed }

-- after a read into n bytes, by what it gave: none after an error, 0 exactly at the end of the input, else the number of bytes that came
abbrev pub after_read : Option ℕ → ℕ → Situation → Situation
after_read None n s = moved s (s.«end» - s.at) s.ended false true
after_read (Some zero) n s = moved s (s.«end» - s.at) true s.going s.failed
after_read (Some (suc k)) n s = moved s (s.«end» - s.at + min (suc k) n) s.ended s.going s.failed

-- the unread bytes are at the front, and after them what the read put there
pub record Refilled (s : Situation) (input : List ℕ) (t : Situation) (input' : List ℕ) : Type 0 where
  pub got : Option ℕ
  pub kept : take (s.«end» - s.at) input' ≡ unread s input
  pub is : t ≡ after_read got (length input - (s.«end» - s.at)) s

-- what is written to standard error: this text if an error was met, else nothing
abbrev pub complaint_of : List ℕ → Situation → List ℕ
complaint_of text s = cond s.failed text []
