-- The loop's invariant: the positions that it has passed are placed.
use Rattle.std.proofs.Common.{◌≡◌, length}
use Rattle.images.specs.Images.{Placed}
use Rattle.images.proofs.put_places.Given as goal

abbrev pub invariant-loop-j : goal.invariant-loop-j
invariant-loop-j l = Placed l.j l.images l.places × (length l.places ≡ 256)
