-- `start_of_more`: from the row of 2^u sums on the rows are made for i; the last three by their lengths as constants.
use Rattle.std.proofs.Common.{◌^◌, take}
use Rattle.memory.specs.Memory.{Arrays, Made}
use Rattle.memory.proofs.start_of_more.Given as goal

abbrev pub invariant-loop-u : goal.invariant-loop-u
invariant-loop-u g l =
    let a = g.A.Arithmetic in
    Arrays (a.wholes l.rows) l.path × Made l.m (take (2 ^ l.m) (a.reads l.readings)) l.path l.i l.u (a.wholes l.rows)
