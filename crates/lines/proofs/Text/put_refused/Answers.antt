-- `lines::Text::put_refused` meets its contract.
use Rattle.lines.specs.Line.{bytes_of, refused_line}
use Rattle.lines.proofs.Text.put_refused.Goals as goal

pub returns-clause-puts : goal.returns-clause-puts
unfolding bytes_of refused_line
returns-clause-puts c = rw c.from.ensures at c.put_numbers.ensures.puts
