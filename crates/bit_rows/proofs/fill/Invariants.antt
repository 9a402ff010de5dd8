-- The loop's invariant is `Filled`: what is filled comes first, then what the row held.
use Rattle.bit_rows.specs.FillLaws.{Filled}
use Rattle.bit_rows.proofs.fill.Given as goal

abbrev pub invariant-loop-i : goal.invariant-loop-i
invariant-loop-i l = Filled l.kinds l.bits l.initial.row l.row l.i l.used
