-- `put_number`: the bits are the digits up to where the loop is.
use Rattle.std.specs.Prelude.{◌≡◌, ℕ, suc, ◌-◌, ◌^◌, ◌%◌, ◌/◌, List, length, get_or}
use Rattle.std.proofs.Common.{ap, ap₂, sym, ◌∙◌, arith, add-one}
use Rattle.std.proofs.Math.ListN.{set, drop_of_length-le}
use Rattle.numbers.specs.Front.{front, front-suc, front-done}
use Rattle.words.specs.Bits.{digit, digits}
use Rattle.words.specs.BitLaws.{length_digits, digits_at}
use Rattle.telegram.proofs.put_number.Goals as goal

pub loop-i-preserved : goal.loop-i-preserved
unfolding digit
loop-i-preserved c =
    let l = c.loop-i in
    let d = c.args.bits.now in
    let w = length d in
    let x = digits w c.args.number in
    let e : w - 1 - l.i ≡ w - suc l.i = omega arith in
    let is : c.args.number / 2 ^ (w - 1 - l.i) % 2 ≡ get_or x l.i 0 = rw e (sym (digits_at w c.args.number l.i (omega arith))) in
    ap₂ (λ (y : List ℕ) (b : ℕ). set y l.i b) l.invariant is
    ∙ front-suc d x l.i 0 (omega arith) (omega (arith, length_digits w c.args.number))
    ∙ ap (front d x) (sym (add-one l.i))

pub returns : goal.returns
returns c =
    let l = c.loop-i in
    let d = c.args.bits.now in
    let x = digits (length d) c.args.number in
    l.invariant ∙ front-done d x l.i (omega arith) (drop_of_length-le x {i = l.i} (omega (arith, length_digits (length d) c.args.number)))
