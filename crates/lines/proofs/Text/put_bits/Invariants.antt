-- `lines::Text::put_bits` meets its contract: bit by bit.
use Rattle.std.proofs.Common.{map, take}
use Rattle.lines.specs.Line.{digit_byte}
use Rattle.lines.specs.LineLaws.{Putting}
use Rattle.lines.proofs.Text.put_bits.Given as goal

abbrev pub invariant-loop-i : goal.invariant-loop-i
invariant-loop-i l = Putting l.initial.self l.self l.i (map digit_byte (take l.i l.bits))
