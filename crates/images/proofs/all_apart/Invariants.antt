-- The loop's invariant: each position passed is at its own image's place.
use Rattle.std.proofs.Common.{◌≡◌, ℕ, ◌<◌, get_or}
use Rattle.maps.specs.Maps.{where_is}
use Rattle.images.proofs.all_apart.Given as goal

abbrev pub invariant-loop-j : goal.invariant-loop-j
invariant-loop-j l = (i : ℕ) → i < l.j → where_is (λ k. get_or l.images k 0) (get_or l.images i 0) l.n ≡ i
