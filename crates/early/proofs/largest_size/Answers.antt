-- The loop's invariant: the largest size of the part that is read.
use Rattle.std.specs.Prelude.{refl, max, pos, nat_abs, get_or}
use Rattle.std.proofs.Common.{ap, ap₂, sym, ◌∙◌, arith, to_z-of_z}
use Rattle.std.specs.Int.{w16}
use Rattle.sure.specs.Sure.{largest}
use Rattle.early.specs.TestedLaws.{largest-more}
use Rattle.early.proofs.largest_size.Goals as goal

pub loop-reading-init : goal.loop-reading-init
unfolding largest
loop-reading-init c = refl

pub loop-reading-preserved : goal.loop-reading-preserved
loop-reading-preserved c =
    let l = c.args.readings.now in
    let o = c.loop-reading in
    let j = o.reading-index in
    let read = to_z-of_z {w = w16} {z = get_or l j (pos 0)} (record { sfits = omega arith }) in
    c.max-most.ensures ∙ ap₂ max o.invariant (c.from.ensures ∙ c.unsigned_abs.ensures.value ∙ ap nat_abs read)
    ∙ sym (largest-more l j (omega arith))
