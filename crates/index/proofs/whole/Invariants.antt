-- `index::whole` meets its contract: the records passed and those that the run still has are all of its records.
use mathlib.Core.Path.{◌≡◌}
use Prim.Native.Nat.{◌-◌, ◌≤◌}
use lib.ListN.{length}
use Rattle.index.specs.Fronting.{run_at, run_of, front_by}
use Rattle.index.proofs.whole.Given as goal

abbrev pub invariant-loop-at : goal.invariant-loop-at
invariant-loop-at l =
    (l.at ≤ length l.capture) × (l.records ≤ l.at) × (front_by l.records (run_at l.capture l.at) ≡ front_by 0 (run_of l.capture))

abbrev pub decreases-loop-at : goal.decreases-loop-at
decreases-loop-at l = length l.capture - l.at
