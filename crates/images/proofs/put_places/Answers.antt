-- The loop's invariant: the positions that it has passed are placed.
use Rattle.std.proofs.Common.{◌<◌, refl, ◌∙◌, arith, length-set, get_or}
use Rattle.images.specs.ArrayLaws.{none_placed, placed_more}
use Rattle.images.proofs.put_places.Goals as goal

pub loop-j-init : goal.loop-j-init
loop-j-init c = (none_placed c.args.images.now c.fill.new.self (λ i h. c.fill.ensures.clones i 0 (omega arith) refl), omega arith)

pub loop-j-preserved : goal.loop-j-preserved
loop-j-preserved c =
    let l = c.loop-j in
    let small : get_or c.args.images.now l.j 0 < 256 = c.fits-images l.j in
    (rw c.from.ensures (placed_more l.j c.args.images.now l.places (omega arith) l.invariant.0), length-set l.places _ _ ∙ l.invariant.1)
