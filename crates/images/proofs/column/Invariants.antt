-- The loop's invariant: the number of the bits that it has passed.
use Rattle.std.proofs.Common.{◌≡◌, ◌+◌, ◌*◌, get_or}
use Rattle.maps.specs.Maps.{number}
use Rattle.images.proofs.column.Given as goal

abbrev pub invariant-loop-p : goal.invariant-loop-p
invariant-loop-p l = l.x ≡ number l.p (λ k. get_or l.table (k * l.width + l.q) 0)
