-- The loop's invariant: the columns passed are there.
use Rattle.std.proofs.Common.{◌≡◌, ◌+◌, ◌*◌, length, get_or}
use Rattle.maps.specs.Maps.{number}
use Rattle.images.specs.Images.{Shows}
use Rattle.images.proofs.product_columns.Given as goal

abbrev pub invariant-loop-q : goal.invariant-loop-q
invariant-loop-q l =
    Shows (λ k. get_or l.images (number l.second.m (λ p. get_or l.second.table.now (p * l.second.m + k) 0)) 0) l.q l.columns × (length l.columns ≡ 8)
