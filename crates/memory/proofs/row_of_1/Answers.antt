-- `row_of_1`: the word is one bit.
use Rattle.std.proofs.Common.{◌-◌, refl, arith}
use borrow.Rule.Slice.PartMut.{mid_of}
use Rattle.rows.specs.Rows.{row_of}
use Rattle.memory.proofs.LowLaws.{start_odd, start-here}
use Rattle.memory.proofs.CodeLaws.{bit_word, upper-here}
use Rattle.memory.proofs.row_of_1.Goals as goal

pub returns-then-i-eq1 : goal.returns-then-i-eq1
returns-then-i-eq1 g c =
    let i = c.args.i in
    let y = c.args.path.now in
    let d = g.A.Arithmetic.wholes c.args.rows.now in
    let o = c.if-i-eq1.true in
    upper-here 0 1 i y (row_of 2 d) d refl (mid_of (i - 1) (i - (i - 1)) y) (start_odd 0 i o) (start-here 0 i o) (bit_word y i (omega (arith, o)))
    c.upper_row.ensures
