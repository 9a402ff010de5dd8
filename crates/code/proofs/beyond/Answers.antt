-- `beyond`: the two signed tests are one test on the size.
use mir.Facts.{to_z-of_z}
use Rattle.code.specs.EntriesLaws.{low_fits, beyond_below, beyond_above}
use Rattle.code.proofs.beyond.Goals as goal

pub overflow_sub-largest : goal.overflow_sub-largest
overflow_sub-largest c = rw (to_z-of_z c.ranges.largest) (low_fits c.args.reading c.args.largest c.requires c.ranges.largest)

pub returns-then-reading-largest : goal.returns-then-reading-largest
returns-then-reading-largest c =
    let s = c.before in
    let fits = low_fits s.args.reading s.args.largest s.requires s.ranges.largest in
    beyond_below s.args.reading s.args.largest s.requires
    (rw (to_z-of_z s.ranges.reading, to_z-of_z s.ranges.largest, to_z-of_z fits) at c.if-reading-largest.true)

pub returns : goal.returns
returns c =
    let s = c.before in
    let fits = low_fits s.args.reading s.args.largest s.requires s.ranges.largest in
    rw (to_z-of_z s.ranges.largest, to_z-of_z s.ranges.reading)
    (beyond_above s.args.reading s.args.largest s.requires
    (rw (to_z-of_z s.ranges.reading, to_z-of_z s.ranges.largest, to_z-of_z fits) at c.if-reading-largest.false))
