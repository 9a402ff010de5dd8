-- `put_number`: the bits are the digits up to where the loop is.
use Rattle.std.specs.Prelude.{◌≡◌, length}
use Rattle.numbers.specs.Front.{front}
use Rattle.words.specs.Bits.{digits}
use Rattle.telegram.proofs.put_number.Given as goal

abbrev pub invariant-loop-i : goal.invariant-loop-i
invariant-loop-i l = l.bits ≡ front l.initial.bits (digits (length l.initial.bits) l.number) l.i
