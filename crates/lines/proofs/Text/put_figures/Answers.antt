-- `lines::Text::put_figures` meets its contract.
use Rattle.std.proofs.Common.{arith}
use Rattle.lines.specs.Line.{bytes_of}
use Rattle.lines.specs.LineLaws.{puts_figures}
use Rattle.lines.proofs.Text.put_figures.Goals as goal

pub returns-clause-puts : goal.returns-clause-puts
unfolding bytes_of
returns-clause-puts c =
    puts_figures _ _ _ (omega arith) (rw c.from.ensures at c.put_field.ensures.puts) (rw c.from-2.ensures at c.put_field-2.ensures.puts)
    (rw c.from-3.ensures at c.put_field-3.ensures.puts) c.put_text.ensures
