-- `make_rows`: from the row of 2^t sums on the rows are made for i.
use Rattle.std.proofs.Common.{suc, ◌-◌, ◌<◌, arith}
use Rattle.memory.proofs.CodeLaws.{short, row_fits, row_small, row_made, pass_ready, made_above}
use Rattle.memory.proofs.ArrayLaws.{same_rows}
use Rattle.memory.proofs.make_rows.Goals as goal

pub loop-t-init : goal.loop-t-init
loop-t-init g c =
    let a = g.A.Arithmetic in
    (same_rows a.whole a.wholes g.met.A.Arithmetic.each_sum c.args.rows.now c.first_row.new.rows c.requires.0 c.first_row.auto.rows, c.first_row.ensures)

pub row-requires : goal.row-requires
row-requires g c =
    let s = c.loop-t.invariant.0 in
    let r = pass_ready c.requires.1 c.loop-t.auto.t (omega arith) c.loop-t.invariant.1 in
    let more : suc (c.loop-t.t - 1) < c.args.m = omega (arith, c.requires.1.some, c.loop-t.auto.t) in
    (row_fits r s more, short r s, s, row_small r s more)

pub loop-t-preserved : goal.loop-t-preserved
loop-t-preserved g c =
    let a = g.A.Arithmetic in
    let s = c.loop-t.invariant.0 in
    let r = pass_ready c.requires.1 c.loop-t.auto.t (omega arith) c.loop-t.invariant.1 in
    let more : suc (c.loop-t.t - 1) < c.args.m = omega (arith, c.requires.1.some, c.loop-t.auto.t) in
    (same_rows a.whole a.wholes g.met.A.Arithmetic.each_sum c.loop-t.rows c.row.new.rows s c.row.auto.rows, row_made r s more c.row.ensures)

pub returns : goal.returns
returns g c = made_above (omega arith) c.loop-t.invariant.1
