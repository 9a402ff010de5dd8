-- `lines::Text::put_field` meets its contract: a text, then a number after it.
use Rattle.std.proofs.Common.{arith}
use Rattle.lines.specs.LineLaws.{puts_then}
use Rattle.lines.proofs.Text.put_field.Goals as goal

pub returns-clause-puts : goal.returns-clause-puts
returns-clause-puts c = puts_then (omega arith) c.put_text.ensures c.put_number.ensures.puts
