-- The loop's invariant: the number of the bits that it has passed.
use Rattle.std.proofs.Common.{ℕ, suc, ◌+◌, ◌*◌, ◌<◌, refl, arith, add-one, get_or}
use Rattle.maps.specs.Maps.{number}
use Rattle.images.specs.ImagesLaws.{number_more, number_small}
use Rattle.images.proofs.column.Goals as goal

pub loop-p-init : goal.loop-p-init
unfolding number
loop-p-init c = refl

pub overflow_add-x-in-loop-p : goal.overflow_add-x-in-loop-p
overflow_add-x-in-loop-p c =
    let l = c.loop-p in
    let f : ℕ → ℕ = λ k. get_or c.args.table.now (k * c.args.width + c.args.q) 0 in
    let less : l.p < 8 = omega arith in
    let more = number_more f l.p (c.requires.3 (l.p * c.args.width + c.args.q)) less in
    omega (arith, more, number_small f (suc l.p) (λ k. c.requires.3 (k * c.args.width + c.args.q)) less)

pub loop-p-preserved : goal.loop-p-preserved
loop-p-preserved c =
    let l = c.loop-p in
    let f : ℕ → ℕ = λ k. get_or c.args.table.now (k * c.args.width + c.args.q) 0 in
    rw (add-one, l.invariant) (number_more f l.p (c.requires.3 (l.p * c.args.width + c.args.q)) (omega arith))
