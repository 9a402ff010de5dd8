-- The bits are the digits up to where the loop is; then comes the last.
use Rattle.std.specs.Prelude.{◌≡◌}
use Rattle.numbers.specs.Front.{front}
use Rattle.hadamard.specs.Hadamard.{bits_of}
use Rattle.first_order.proofs.put_bits.Given as goal

abbrev pub invariant-loop-i : goal.invariant-loop-i
invariant-loop-i l = l.bits ≡ front l.initial.bits (bits_of l.m l.place l.sign) l.i
