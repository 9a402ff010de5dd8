-- After j passes the row has the first j readings.
use Rattle.std.specs.Prelude.{◌≡◌}
use Rattle.numbers.specs.Front.{front}
use Rattle.first_order.proofs.put_sums.Given as goal

abbrev pub invariant-loop-j : goal.invariant-loop-j
invariant-loop-j l = l.row ≡ front l.initial.row l.readings l.j
