-- The loop's invariant: what is moved comes first, then what is unchanged.
use Rattle.std.proofs.Common.{refl, length, get_or, arith}
use Rattle.std.proofs.lemmas.List.{get_or_read_under}
use Rattle.std.specs.Int.Bits.{bit_xor}
use Rattle.images.specs.ArrayLaws.{filled_more, filled_all}
use Rattle.images.proofs.move_entries.Goals as goal

pub loop-j-preserved : goal.loop-j-preserved
loop-j-preserved g c d =
    let l = c.loop-j in
    let x = c.args.from.now in
    rw (l.invariant d)
    (filled_more d (λ j. get_or x (bit_xor (get_or c.args.images.now j 0) c.args.x) d) (length x) c.args.to.now c.requires.room l.j _ (omega arith)
    (get_or_read_under x (bit_xor (get_or c.args.images.now l.j 0) c.args.x) (length x) _ d (rw c.from.ensures at c.index-from-from.is)
    (c.requires.within l.j (omega arith)) refl))

pub returns : goal.returns
returns g c d =
    let l = c.loop-j in
    let x = c.args.from.now in
    rw (l.invariant d)
    (filled_all d (λ j. get_or x (bit_xor (get_or c.args.images.now j 0) c.args.x) d) (length x) c.args.to.now c.requires.room l.j (omega arith))
