-- `index::put_entries` meets its contract: the loop's invariant is `Entering`.
use Rattle.std.proofs.Common.{◌-◌, length}
use Rattle.index.specs.MakingLaws.{Entering}
use Rattle.index.proofs.put_entries.Given as goal

abbrev pub invariant-loop-next : goal.invariant-loop-next
invariant-loop-next l = Entering l.capture l.initial.table l.at l.w l.table

abbrev pub decreases-loop-next : goal.decreases-loop-next
decreases-loop-next l = length l.capture - l.at
