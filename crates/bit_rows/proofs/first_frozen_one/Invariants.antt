-- Where there is one, the loop's invariant is `Passed`: no index passed is frozen and 1.
use Rattle.bit_rows.specs.FillLaws.{Passed}
use Rattle.bit_rows.proofs.first_frozen_one.Given as goal

abbrev pub invariant-loop-i : goal.invariant-loop-i
invariant-loop-i l = Passed l.kinds l.row l.i
