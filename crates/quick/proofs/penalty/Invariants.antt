-- The loop's invariant: the sum is the penalty of the part that is read.
use Rattle.std.specs.Prelude.{◌≡◌, take}
use Rattle.decoding.specs.Readings.{penalty}
use Rattle.quick.proofs.penalty.Given as goal

abbrev pub invariant-loop-j : goal.invariant-loop-j
invariant-loop-j l = l.sum ≡ penalty (take l.j l.readings) l.word
