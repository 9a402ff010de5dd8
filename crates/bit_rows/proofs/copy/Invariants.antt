-- The loop's invariant: what is copied comes first, then what is unchanged.
use Rattle.std.proofs.Common.{◌≡◌}
use Rattle.numbers.specs.Front.{front}
use Rattle.bit_rows.proofs.copy.Given as goal

abbrev pub invariant-loop-i : goal.invariant-loop-i
invariant-loop-i g l = l.to ≡ front l.initial.to l.from l.i
