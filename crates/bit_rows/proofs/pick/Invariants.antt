-- The loop's invariant is `Picked`; a pass takes a part of eight kinds, and the last few, fewer than eight, are taken one by one.
use Rattle.std.proofs.Common.{◌*◌}
use Rattle.bit_rows.specs.PickLaws.{Picked}
use Rattle.bit_rows.proofs.pick.Given as goal

abbrev pub invariant-loop-k : goal.invariant-loop-k
invariant-loop-k l = Picked l.kinds l.row l.initial.bits l.bits (8 * l.k) l.taken
