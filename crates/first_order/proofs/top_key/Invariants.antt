-- After j passes the largest of the first j keys is held.
use Rattle.first_order.specs.Work.{key_at, Top}
use Rattle.first_order.proofs.top_key.Given as goal

abbrev pub invariant-loop-j : goal.invariant-loop-j
invariant-loop-j l = Top (key_at l.row) l.j l.most
