-- `frozen::lost` meets its contract: the sum is the penalty of the part that is read.
use mathlib.Core.Path.{◌≡◌}
use lib.ListN.{take, replicate}
use Rattle.decoding.specs.Readings.{penalty}
use Rattle.rows.specs.Rows.{row_of}
use Rattle.blocks.proofs.frozen.lost.Given as goal

abbrev pub invariant-loop-j : goal.invariant-loop-j
invariant-loop-j l = l.p ≡ penalty (take l.j (row_of 16 l.rows)) (replicate 16 l.bit)
