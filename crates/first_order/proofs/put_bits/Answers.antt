-- The bits are the digits up to where the loop is; then comes the last.
use Rattle.std.specs.Prelude.{◌≡◌, List, ℕ, suc, ◌-◌, ◌^◌, ◌%◌, ◌/◌, get_or, set}
use Rattle.std.proofs.Common.{ap, ap₂, sym, ◌∙◌, add-one, arith, drop_of_length-le}
use Rattle.numbers.specs.Front.{front, front-suc, front-done}
use Rattle.words.specs.Bits.{digit}
use Rattle.hadamard.specs.Hadamard.{bits_of}
use Rattle.first_order.specs.WordLaws.{length-bits_of, bit_at, last_bit_lem}
use Rattle.first_order.proofs.put_bits.Goals as goal

pub loop-i-preserved : goal.loop-i-preserved
unfolding digit
loop-i-preserved c =
    let o = c.loop-i in
    let d = c.args.bits.now in
    let m = c.args.m in
    let x = bits_of m c.args.place c.args.sign in
    let long = length-bits_of m c.args.place c.args.sign in
    let is : c.args.place / 2 ^ (m - 1 - o.i) % 2 ≡ get_or x o.i 0 = sym (bit_at m c.args.place c.args.sign o.i (omega arith)) in
    ap₂ (λ (y : List ℕ) (b : ℕ). set y o.i b) o.invariant is
    ∙ front-suc d x o.i 0 (omega (arith, c.requires.0)) (omega arith)
    ∙ ap (front d x) (sym (add-one o.i))

pub returns : goal.returns
returns c =
    let o = c.loop-i in
    let d = c.args.bits.now in
    let m = c.args.m in
    let x = bits_of m c.args.place c.args.sign in
    let long = length-bits_of m c.args.place c.args.sign in
    let e : o.i ≡ m = omega arith in
    ap₂ (λ (b : List ℕ) (v : ℕ). set b m v) (o.invariant ∙ ap (front d x) e) (last_bit_lem m c.args.place c.args.sign c.requires.2)
    ∙ front-suc d x m 0 (omega (arith, c.requires.0)) (omega arith)
    ∙ front-done d x (suc m) (omega (arith, c.requires.0)) (drop_of_length-le x {i = suc m} (omega arith))
