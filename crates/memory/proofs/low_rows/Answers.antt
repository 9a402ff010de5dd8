-- `low_rows`: one row after the other.
use Rattle.std.proofs.Common.{◌≡◌, arith}
use Rattle.memory.proofs.LowLaws.{low-next, remade-one, remade-more}
use Rattle.memory.proofs.low_rows.Goals as goal

pub row_of_2-requires : goal.row_of_2-requires
row_of_2-requires g c = low-next (rw c.if-k-eq3.true at c.requires.1) c.row_of_4.ensures

pub row_of_1-requires : goal.row_of_1-requires
row_of_1-requires g c = low-next (low-next (rw c.if-k-eq3.true at c.requires.1) c.row_of_4.ensures) c.row_of_2.ensures

pub returns-then-k-eq3 : goal.returns-then-k-eq3
returns-then-k-eq3 g c =
    let w = g.A.Arithmetic.wholes in
    let i = c.args.i in
    let y = c.args.path.now in
    rw c.if-k-eq3.true
    (remade-more 2 i y (w c.args.rows.now) c.row_of_4.ensures
    (remade-more 1 i y (w c.row_of_4.new.rows) c.row_of_2.ensures (remade-one i y (w c.row_of_2.new.rows) c.row_of_1.ensures)))

pub row_of_1-requires-then-k-eq2 : goal.row_of_1-requires-then-k-eq2
row_of_1-requires-then-k-eq2 g c = low-next (rw c.if-k-eq2.true at c.requires.1) c.row_of_2-then-k-eq2.ensures

pub returns-then-k-eq2 : goal.returns-then-k-eq2
returns-then-k-eq2 g c =
    let w = g.A.Arithmetic.wholes in
    let i = c.args.i in
    let y = c.args.path.now in
    rw c.if-k-eq2.true
    (remade-more 1 i y (w c.args.rows.now) c.row_of_2-then-k-eq2.ensures
    (remade-one i y (w c.row_of_2-then-k-eq2.new.rows) c.row_of_1-then-k-eq2.ensures))

pub returns : goal.returns
returns g c =
    let one : c.args.k ≡ 1 = omega (arith, c.requires.1.few) in
    rw one (remade-one c.args.i c.args.path.now (g.A.Arithmetic.wholes c.args.rows.now) c.row_of_1-2.ensures)
