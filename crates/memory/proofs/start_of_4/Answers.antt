-- `start_of_4`: the upper row of four sums, and the lower ones of two and one.
use Rattle.std.proofs.Common.{refl, arith}
use Rattle.memory.proofs.LowLaws.{low-next, remade-one, remade-more, lower-new}
use Rattle.memory.proofs.CodeLaws.{four-here}
use Rattle.memory.proofs.ArrayLaws.{low_asks}
use Rattle.memory.proofs.start_of_4.Goals as goal

pub lower_row-requires : goal.lower_row-requires
lower_row-requires g c =
    let upper = four-here c.word_of_4.new.word c.requires.0 c.requires.1 c.word_of_4.ensures c.upper_row.ensures in
    let a = g.A.Arithmetic in
    low_asks a.whole a.wholes g.met.A.Arithmetic.each_sum c.upper_row.new.rows (low-next c.requires.1 upper)

pub lower_row-requires-2 : goal.lower_row-requires-2
lower_row-requires-2 g c =
    let a = g.A.Arithmetic in
    let x = a.wholes c.upper_row.new.rows in
    let upper = four-here c.word_of_4.new.word c.requires.0 c.requires.1 c.word_of_4.ensures c.upper_row.ensures in
    let two = lower-new 2 c.args.i c.requires.0 1 2 c.args.path.now x (omega arith) refl c.lower_row.ensures in
    low_asks a.whole a.wholes g.met.A.Arithmetic.each_sum c.lower_row.new.rows (low-next (low-next c.requires.1 upper) two)

pub returns : goal.returns
returns g c =
    let i = c.args.i in
    let y = c.args.path.now in
    let x = g.A.Arithmetic.wholes c.upper_row.new.rows in
    let z = g.A.Arithmetic.wholes c.lower_row.new.rows in
    let upper = four-here c.word_of_4.new.word c.requires.0 c.requires.1 c.word_of_4.ensures c.upper_row.ensures in
    let two = lower-new 2 i c.requires.0 1 2 y x (omega arith) refl c.lower_row.ensures in
    remade-more 2 i y (g.A.Arithmetic.wholes c.args.rows.now) upper
    (remade-more 1 i y x two (remade-one i y z (lower-new 2 i c.requires.0 0 1 y z (omega arith) refl c.lower_row-2.ensures)))
