-- The largest of the sizes that are passed is held.
use Rattle.first_order.specs.Work.{size_at, Top}
use Rattle.first_order.proofs.top_size.Given as goal

abbrev pub invariant-loop-entry : goal.invariant-loop-entry
invariant-loop-entry l = Top (size_at l.row) l.entry-index l.most
