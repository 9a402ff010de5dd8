-- `lines::Text::put_total` meets its contract.
use Rattle.lines.specs.Line.{bytes_of, total_line}
use Rattle.lines.proofs.Text.put_total.Goals as goal

pub returns-clause-puts : goal.returns-clause-puts
unfolding bytes_of total_line
returns-clause-puts c = c.put_numbers.ensures.puts
