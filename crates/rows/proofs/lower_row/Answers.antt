-- `rows::lower_row` meets its contract.
use Rattle.std.proofs.Common.{arith}
use Rattle.rows.specs.SumLaws.{lower-asked, lower-more}
use Rattle.rows.proofs.lower_row.Goals as goal

pub lower-requires : goal.lower-requires
lower-requires g c =
    let a = g.A.Arithmetic in
    let o = c.loop-j in
    lower-asked a.whole a.wholes g.met.A.Arithmetic.each_sum c.args.rows.now o.rows c.args.h o.j c.index-rows-h.result c.index-rows-h-in-loop-j.result
    c.requires.0 o.auto.rows (omega arith) c.index-rows-h.is c.index-rows-h-in-loop-j.is o.invariant c.requires.1

pub loop-j-preserved : goal.loop-j-preserved
loop-j-preserved g c =
    let a = g.A.Arithmetic in
    let o = c.loop-j in
    lower-more a.whole a.wholes g.met.A.Arithmetic.each_sum c.args.rows.now o.rows c.args.h o.j c.index-rows-h.result c.index-rows-h-in-loop-j.result
    c.requires.0 o.auto.rows (omega arith) c.index-rows-h.is c.index-rows-h-in-loop-j.is c.lower.result o.invariant c.lower.ensures
