-- `packing::readings_in` meets its contract: none of the codes passed has such a part.
use Rattle.std.proofs.Common.{◌≡◌, suc}
use Rattle.code.specs.Sound.{largest_m}
use Rattle.packing.specs.Layout.{readings_in}
use Rattle.packing.proofs.readings_in.Given as goal

abbrev pub invariant-loop-m : goal.invariant-loop-m
invariant-loop-m l = readings_in (suc largest_m) l.bytes ≡ readings_in (suc l.m) l.bytes
