-- `some_bad_bit`: the entries from i on, and what was found before them.
use Prim.Native.Nat.{◌-◌}
use mathlib.Core.Path.{refl}
use native.Mathlib.Omega.{arith}
use lib.ListN.{length}
use Rattle.code.specs.EntriesLaws.{Asked, ask_more, asked_all}
use Rattle.code.proofs.some_bad_bit.Goals as goal

pub loop-bit-init : goal.loop-bit-init
loop-bit-init c = (omega arith, refl)

pub loop-bit-preserved : goal.loop-bit-preserved
loop-bit-preserved c =
    let l = c.loop-bit in
    ask_more 0 (λ b. b) 1 c.args.bits.now l.bit-index l.some (omega arith) l.invariant

pub returns : goal.returns
returns c =
    let l = c.loop-bit in
    asked_all 0 (λ b. b) 1 c.args.bits.now l.bit-index l.some (omega arith) l.invariant
