-- `start_of_2`: the upper row of two sums, and the lower one of one.
use Rattle.std.proofs.Common.{refl, arith}
use Rattle.memory.proofs.LowLaws.{low-next, remade-one, remade-more, lower-new}
use Rattle.memory.proofs.CodeLaws.{pair-here}
use Rattle.memory.proofs.ArrayLaws.{low_asks}
use Rattle.memory.proofs.start_of_2.Goals as goal

pub lower_row-requires : goal.lower_row-requires
lower_row-requires g c =
    let upper = pair-here c.requires.0 c.requires.1 c.pair-both.ensures c.upper_row.ensures in
    let a = g.A.Arithmetic in
    low_asks a.whole a.wholes g.met.A.Arithmetic.each_sum c.upper_row.new.rows (low-next c.requires.1 upper)

pub returns : goal.returns
returns g c =
    let i = c.args.i in
    let y = c.args.path.now in
    let x = g.A.Arithmetic.wholes c.upper_row.new.rows in
    let upper = pair-here c.requires.0 c.requires.1 c.pair-both.ensures c.upper_row.ensures in
    remade-more 1 i y (g.A.Arithmetic.wholes c.args.rows.now) upper
    (remade-one i y x (lower-new 1 i c.requires.0 0 1 y x (omega arith) refl c.lower_row.ensures))
