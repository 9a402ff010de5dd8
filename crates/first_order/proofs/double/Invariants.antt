-- After j passes the first j bits are repeated after the first h.
use Rattle.std.specs.Prelude.{◌≡◌}
use Rattle.first_order.specs.WordLaws.{doubling}
use Rattle.first_order.proofs.double.Given as goal

abbrev pub invariant-loop-j : goal.invariant-loop-j
invariant-loop-j l = l.word ≡ doubling l.initial.word l.h l.bit l.j
