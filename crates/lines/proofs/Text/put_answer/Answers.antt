-- `lines::Text::put_answer` meets its contract.
use Rattle.std.proofs.Common.{arith}
use Rattle.lines.specs.Line.{answer_line}
use Rattle.lines.specs.LineLaws.{puts_then}
use Rattle.lines.proofs.Text.put_answer.Goals as goal

pub returns-clause-puts : goal.returns-clause-puts
unfolding answer_line
returns-clause-puts c = puts_then (omega arith) c.put_info.ensures.puts c.put_figures.ensures.puts
