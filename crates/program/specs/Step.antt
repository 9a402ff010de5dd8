-- What the work on one record leaves: its line, and what the program's next step depends on.
use Rattle.std.specs.Prelude.{◌≡◌, List, ℕ, cond}
use Rattle.lines.specs.declared.Text.{Text}
use Rattle.lines.specs.Line.{Puts}
use Rattle.program.specs.declared.Became.{Became}
use Rattle.program.specs.declared.Became.TheVariants as became
use Rattle.program.specs.declared.Step.{Step}
use Rattle.program.specs.Program.{Result, answered, refused, line_of, stops, next_start}

-- an answer, a refusal, or a refusal after which the next start isn't known
abbrev pub became_of : Result → Became
became_of (answered bits penalty gap visits) = became.Answered
became_of (refused why) = cond (stops (refused why)) became.Last became.Refused

-- for record w with this result, which the bytes s begin with; its line comes after the text that waits
pub record Stepped (w : ℕ) (s : List ℕ) (result : Result) (old : Text) (t : Step) (new : Text) : Type 0 where
  pub line : Puts old new (line_of w result)
  pub became_is : t.became ≡ became_of result
  pub next : t.taken ≡ next_start s
