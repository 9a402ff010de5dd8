-- The loop's invariant: the images of the positions below 2^q are there.
use Rattle.std.proofs.Common.{[], ◌^◌}
use Rattle.maps.specs.Maps.{image}
use Rattle.images.specs.Images.{Shows}
use Rattle.images.proofs.put_images.Given as goal

abbrev pub invariant-loop-q : goal.invariant-loop-q
invariant-loop-q l = Shows (image l.map.m l.map.table.now []) (2 ^ l.q) l.images
