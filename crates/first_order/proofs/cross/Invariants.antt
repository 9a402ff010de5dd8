-- After j passes the first j sums and the first j differences are in their places.
use Rattle.std.specs.Prelude.{◌≡◌, ◌+◌, length}
use Rattle.first_order.specs.CrossLaws.{crossing}
use Rattle.first_order.proofs.cross.Given as goal

abbrev pub invariant-loop-j : goal.invariant-loop-j
invariant-loop-j l = (long : length l.initial.row ≡ l.h + l.h) → l.row ≡ crossing l.initial.row l.h long l.j
