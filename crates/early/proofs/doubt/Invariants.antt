-- The loop's invariant: the sum is that of the part that is read.
use Rattle.std.specs.Prelude.{◌≡◌, take}
use Rattle.sure.specs.Sure.{doubt}
use Rattle.early.proofs.doubt.Given as goal

abbrev pub invariant-loop-j : goal.invariant-loop-j
invariant-loop-j l = l.sum ≡ doubt l.largest (take l.j l.readings) l.word
