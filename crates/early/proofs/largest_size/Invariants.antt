-- The loop's invariant: the largest size of the part that is read.
use Rattle.std.specs.Prelude.{◌≡◌, take}
use Rattle.sure.specs.Sure.{largest}
use Rattle.early.proofs.largest_size.Given as goal

abbrev pub invariant-loop-reading : goal.invariant-loop-reading
invariant-loop-reading l = l.most ≡ largest (take l.reading-index l.readings)
