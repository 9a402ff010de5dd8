-- `lines::Text::put_info` meets its contract.
use Rattle.std.proofs.Common.{arith}
use Rattle.lines.specs.Line.{bytes_of, info_text}
use Rattle.lines.specs.LineLaws.{puts_then}
use Rattle.lines.proofs.Text.put_info.Goals as goal

pub returns-clause-puts : goal.returns-clause-puts
unfolding bytes_of info_text
returns-clause-puts c =
    puts_then (omega arith) (puts_then (omega arith) c.put_number.ensures.puts c.put_text.ensures) c.put_bits.ensures
