-- `number_of`: the digits so far, and the rest of them, give the number.
use Rattle.std.specs.Prelude.{◌≡◌, ◌+◌, ◌-◌, ◌*◌, ◌^◌, ◌<◌, length, drop}
use Rattle.guarded.specs.Guard.{of_digits}
use Rattle.guarded.proofs.number_of.Given as goal

abbrev pub invariant-loop-bit : goal.invariant-loop-bit
invariant-loop-bit l =
    let i = l.bit-index in (l.n < 2 ^ i) × (l.n * 2 ^ (length l.bits - i) + of_digits (drop i l.bits) ≡ of_digits l.bits)
