-- The loop's invariant: the sum is that of the part that is read.
use Rattle.std.specs.Prelude.{◌≡◌, refl, ◌+◌, pos, nat_abs, get_or, take, drop}
use Rattle.std.proofs.Common.{ap, ap₂, sym, ◌∙◌, add-one, arith, take-append-drop, to_z-of_z}
use Rattle.std.specs.Int.{w16}
use Rattle.decoding.specs.Readings.{sizes}
use Rattle.decoding.specs.StepLaws.{sizes-append}
use Rattle.first_order.specs.WordLaws.{sizes-more}
use Rattle.first_order.proofs.total_size.Goals as goal
use Rattle.first_order.proofs.total_size.Goals.{After-from-sum}

pub loop-reading-init : goal.loop-reading-init
unfolding sizes
loop-reading-init c = refl

-- one more reading
more : (c : After-from-sum)
    → let o = c.loop-reading in
    o.sum + c.from-sum.result ≡ sizes (take (o.reading-index + 1) c.args.readings.now)
more c =
    let l = c.args.readings.now in
    let o = c.loop-reading in
    let j = o.reading-index in
    let read = to_z-of_z {w = w16} {z = get_or l j (pos 0)} (record { sfits = omega arith }) in
    ap₂ ◌+◌ o.invariant (c.from-sum.ensures ∙ c.unsigned_abs.ensures.value ∙ ap nat_abs read)
    ∙ sym (rw add-one (sizes-more l j (omega arith)))

pub overflow_add-sum : goal.overflow_add-sum
overflow_add-sum c =
    let l = c.args.readings.now in
    let j = c.loop-reading.reading-index + 1 in
    record { fits = omega (arith, more c, ap sizes (take-append-drop j l), sizes-append (take j l) (drop j l), c.requires) }

pub loop-reading-preserved : goal.loop-reading-preserved
loop-reading-preserved c = more c
