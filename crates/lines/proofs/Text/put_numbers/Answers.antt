-- `lines::Text::put_numbers` meets its contract: piece by piece.
use Rattle.std.proofs.Common.{append_assoc, arith}
use Rattle.lines.specs.LineLaws.{puts_then}
use Rattle.lines.proofs.Text.put_numbers.Goals as goal

pub returns-clause-puts : goal.returns-clause-puts
returns-clause-puts c =
    rw (append_assoc _ c.args.between.now _) (puts_then (omega arith) (puts_then (omega arith) c.put_number.ensures.puts c.put_field.ensures.puts)
    c.put_text.ensures)
