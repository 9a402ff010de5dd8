-- `number_of`: the digits so far, and the rest of them, give the number.
use Rattle.std.specs.Prelude.{◌≤◌}
use Rattle.std.proofs.Common.{sym, ◌∙◌, arith, add-one, pow_mono}
use Rattle.std.proofs.Math.Nat.{two-pow-succ}
use Rattle.guarded.specs.DigitLaws.{number-next, number-end}
use Rattle.guarded.proofs.number_of.Goals as goal

pub overflow_mul-n : goal.overflow_mul-n
overflow_mul-n c =
    let l = c.loop-bit in
    let few : l.bit-index ≤ 16 = omega arith in
    omega (arith, l.invariant.0, pow_mono few)

pub overflow_add-n : goal.overflow_add-n
overflow_add-n c =
    let l = c.loop-bit in
    let few : l.bit-index ≤ 16 = omega arith in
    omega (arith, l.invariant.0, pow_mono few, c.from.ensures, c.requires.0 l.bit-index)

pub loop-bit-preserved : goal.loop-bit-preserved
loop-bit-preserved c =
    let l = c.loop-bit in
    let i = l.bit-index in (
      rw (add-one i) (omega (arith, l.invariant.0, two-pow-succ i, c.from.ensures, c.requires.0 i)),
      rw (add-one i, c.from.ensures) (number-next l.n i c.args.bits.now (omega arith) ∙ l.invariant.1),
    )

pub returns : goal.returns
returns c =
    let l = c.loop-bit in
    sym (number-end l.n l.bit-index c.args.bits.now (omega arith)) ∙ l.invariant.1
