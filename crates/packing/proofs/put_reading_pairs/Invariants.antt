-- `packing::put_reading_pairs` meets its contract: pass by pass the next two readings are stored.
use mathlib.Core.Path.{◌≡◌}
use Prim.Native.Nat.{◌*◌}
use lib.ListN.{length}
use Rattle.numbers.specs.Front.{front}
use Rattle.packing.specs.Layout.{unpacked}
use Rattle.packing.proofs.put_reading_pairs.Given as goal

abbrev pub invariant-loop-j : goal.invariant-loop-j
invariant-loop-j l =
    (l.readings ≡ front l.initial.readings (unpacked l.part) (2 * l.j))
    × (length l.readings ≡ length l.initial.readings)
