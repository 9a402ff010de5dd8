-- The loop's invariant is `OfEight`: the indices before j are filled.
use Rattle.bit_rows.specs.EightKindsLaws.{OfEight}
use Rattle.bit_rows.proofs.put_eight.Given as goal

abbrev pub invariant-loop-j : goal.invariant-loop-j
invariant-loop-j g l = OfEight g.row.D l.bits l.eight l.j l.used
