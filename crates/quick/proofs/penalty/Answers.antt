-- The loop's invariant: the sum is the penalty of the part that is read.
use Rattle.std.specs.Prelude.{◌≡◌, refl, ◌+◌, ℤ, pos, get_or, take}
use Rattle.std.proofs.Common.{ap, ap₂, sym, ◌∙◌, arith, to_z-of_z}
use Rattle.std.specs.Int.{w16, w32}
use Rattle.decoding.specs.Readings.{penalty, loss}
use Rattle.decoding.specs.StepLaws.{penalty-sizes}
use Rattle.decoding.specs.PenaltyLaws.{penalty-more, sizes-part}
use Rattle.quick.proofs.penalty.Goals as goal
use Rattle.quick.proofs.penalty.Goals.{After-loss-sum}

pub loop-j-init : goal.loop-j-init
unfolding penalty
loop-j-init c = refl

-- one more position
more : (c : After-loss-sum)
    → let s = c.args in
    let l = c.loop-j in
    l.sum + c.loss-sum.result ≡ penalty (take (l.j + 1) s.readings.now) s.word.now
more c =
    let s = c.args in
    let l = c.loop-j in
    let bit = get_or s.word.now l.j 0 in
    let z : ℤ = get_or s.readings.now l.j (pos 0) in
    let is : c.from.result ≡ z = c.from.ensures ∙ to_z-of_z {w = w16} {z = z} (record { sfits = omega arith }) in
    let read = to_z-of_z {w = w32} {z = c.from.result} (record { sfits = omega arith }) ∙ is in
    ap₂ ◌+◌ l.invariant (c.loss-sum.ensures ∙ ap (λ (x : ℤ). loss x bit) read)
    ∙ sym (penalty-more s.readings.now s.word.now l.j (omega arith) (omega arith))

pub overflow_add-sum : goal.overflow_add-sum
overflow_add-sum c =
    let l = c.args.readings.now in
    let j = c.loop-j.j + 1 in
    record { fits = omega (arith, more c, penalty-sizes (take j l) c.args.word.now, sizes-part l j, c.requires.1) }

pub loop-j-preserved : goal.loop-j-preserved
loop-j-preserved c = more c
