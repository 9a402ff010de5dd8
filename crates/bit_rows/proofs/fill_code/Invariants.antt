-- The loop's invariant is `ByEights`: the indices of the first k eights are filled.
use Rattle.std.proofs.Common.{◌*◌}
use Rattle.bit_rows.specs.EightKindsLaws.{ByEights}
use Rattle.bit_rows.proofs.fill_code.Given as goal

abbrev pub invariant-loop-k : goal.invariant-loop-k
invariant-loop-k l = ByEights l.r l.m l.bits l.row (8 * l.k) l.used
