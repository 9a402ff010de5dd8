-- `frozen::fifteen_frozen` meets its contract: what was found among the first j kinds.
use mathlib.Core.Path.{◌≡◌}
use lib.ListN.{take, drop}
use lib.Dec.{ltb}
use Rattle.numbers.specs.Sums.{sum}
use Rattle.blocks.proofs.frozen.fifteen_frozen.Given as goal

abbrev pub invariant-loop-j : goal.invariant-loop-j
invariant-loop-j l = l.some ≡ ltb 0 (sum (take l.j (drop l.i l.kinds)))
