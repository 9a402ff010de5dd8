-- The loop's invariant: the sum is that of the part that is read.
use Rattle.std.specs.Prelude.{◌≡◌, take}
use Rattle.decoding.specs.Readings.{sizes}
use Rattle.first_order.proofs.total_size.Given as goal

abbrev pub invariant-loop-reading : goal.invariant-loop-reading
invariant-loop-reading l = l.sum ≡ sizes (take l.reading-index l.readings)
