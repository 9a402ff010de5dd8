-- The loop's invariant: what is filled comes first, then what is unchanged.
use Rattle.std.proofs.Common.{◌≡◌, length}
use Rattle.numbers.specs.Front.{front}
use Rattle.images.specs.Images.{spread_of}
use Rattle.images.proofs.spread.Given as goal

abbrev pub invariant-loop-i : goal.invariant-loop-i
invariant-loop-i l = l.table ≡ front l.initial.table (spread_of l.columns l.width (length l.initial.table)) l.i
