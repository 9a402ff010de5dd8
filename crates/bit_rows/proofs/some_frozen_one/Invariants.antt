-- `some_frozen_one`: the indices before i, and what was found among them.
use Rattle.bit_rows.specs.FillLaws.{Seen}
use Rattle.bit_rows.proofs.some_frozen_one.Given as goal

abbrev pub invariant-loop-i : goal.invariant-loop-i
invariant-loop-i l = Seen l.kinds l.row l.i l.some
