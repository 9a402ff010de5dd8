-- The loop's invariant is `Picked`; a pass takes a part of one kind.
use Rattle.bit_rows.specs.PickLaws.{Picked}
use Rattle.bit_rows.proofs.pick_each.Given as goal

abbrev pub invariant-loop-i : goal.invariant-loop-i
invariant-loop-i l = Picked l.kinds l.row l.initial.bits l.bits l.i l.taken
