-- `packing::put_packed_pairs` meets its contract: pass by pass the next three bytes are stored.
use mathlib.Core.Path.{◌≡◌}
use Prim.Native.Nat.{◌*◌}
use lib.ListN.{length}
use Rattle.numbers.specs.Front.{front}
use Rattle.packing.specs.Layout.{packed}
use Rattle.packing.proofs.put_packed_pairs.Given as goal

abbrev pub invariant-loop-j : goal.invariant-loop-j
invariant-loop-j l =
    (l.part ≡ front l.initial.part (packed l.readings) (3 * l.j))
    × (length l.part ≡ length l.initial.part)
