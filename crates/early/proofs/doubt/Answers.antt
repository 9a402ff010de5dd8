-- The loop's invariant: the sum is that of the part that is read.
use mathlib.Core.Path.{◌≡◌, refl, ap, ap₂, sym, ◌∙◌}
use Prim.Native.Nat.{◌+◌}
use native.Mathlib.Omega.{arith}
use lib.IntN.{ℤ, pos}
use lib.ListN.{get_or, take}
use mir.Syntax.{w16}
use mir.Facts.{to_z-of_z}
use Rattle.sure.specs.Sure.{doubt_at, doubt}
use Rattle.early.specs.TestedLaws.{doubt-more, doubt-part}
use Rattle.early.proofs.doubt.Goals as goal
use Rattle.early.proofs.doubt.Goals.{After-doubt_at-sum}

pub loop-j-init : goal.loop-j-init
unfolding doubt
loop-j-init c = refl

-- one more position
more : (c : After-doubt_at-sum)
    → let g = c.args in
    let o = c.loop-j in
    o.sum + c.doubt_at-sum.result ≡ doubt g.largest (take (o.j + 1) g.readings.now) g.word.now
more c =
    let g = c.args in
    let o = c.loop-j in
    let l = g.readings.now in
    let x = g.word.now in
    let M = g.largest in
    let read = to_z-of_z {w = w16} {z = get_or l o.j (pos 0)} (record { sfits = omega arith }) in
    ap₂ ◌+◌ o.invariant (c.doubt_at-sum.ensures ∙ ap (λ (z : ℤ). doubt_at M z (get_or x o.j 0)) read)
    ∙ sym (doubt-more M l x o.j (omega (arith, c.requires.long)) (omega arith))

pub overflow_add-sum : goal.overflow_add-sum
overflow_add-sum c =
    let l = c.args.readings.now in
    let x = c.args.word.now in
    let j = c.loop-j.j + 1 in
    record { fits = omega (arith, more c, doubt-part c.args.largest l x j, c.requires.sum_small) }

pub loop-j-preserved : goal.loop-j-preserved
loop-j-preserved c = more c
