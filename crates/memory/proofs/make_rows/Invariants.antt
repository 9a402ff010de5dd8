-- `make_rows`: from the row of 2^t sums on the rows are made for i.
use Rattle.std.proofs.Common.{◌^◌, take}
use Rattle.memory.specs.Memory.{Arrays, Made}
use Rattle.memory.proofs.make_rows.Given as goal

abbrev pub invariant-loop-t : goal.invariant-loop-t
invariant-loop-t g l =
    let a = g.A.Arithmetic in
    Arrays (a.wholes l.rows) l.path × Made l.m (take (2 ^ l.m) (a.reads l.readings)) l.path l.i l.t (a.wholes l.rows)
