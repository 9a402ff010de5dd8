-- `some_bad_bit`: the entries from i on, and what was found before them.
use Prim.Native.Nat.{◌-◌}
use mathlib.Core.Path.{refl}
use native.Mathlib.Omega.{arith}
use lib.ListN.{length}
use Rattle.code.specs.EntriesLaws.{Asked, ask_more, asked_all}
use Rattle.code.proofs.some_bad_bit.Given as goal

abbrev pub invariant-loop-bit : goal.invariant-loop-bit
invariant-loop-bit l = Asked 0 (λ b. b) 1 l.bits l.bit-index l.some
