-- `rows::upper_row` meets its contract.
use Rattle.std.proofs.Common.{arith}
use Rattle.rows.specs.SumLaws.{upper-asked, upper-more}
use Rattle.rows.proofs.upper_row.Goals as goal

pub upper-requires : goal.upper-requires
upper-requires g c =
    let a = g.A.Arithmetic in
    let o = c.loop-j in
    upper-asked a.whole a.wholes g.met.A.Arithmetic.each_sum c.args.rows.now o.rows c.args.h o.j c.index-rows-h.result c.index-rows-h-in-loop-j.result
    c.requires.0 o.auto.rows (omega arith) c.index-rows-h.is c.index-rows-h-in-loop-j.is c.args.word.now c.requires.1 o.invariant c.requires.2

pub loop-j-preserved : goal.loop-j-preserved
loop-j-preserved g c =
    let a = g.A.Arithmetic in
    let o = c.loop-j in
    upper-more a.whole a.wholes g.met.A.Arithmetic.each_sum c.args.rows.now o.rows c.args.h o.j c.index-rows-h.result c.index-rows-h-in-loop-j.result
    c.requires.0 o.auto.rows (omega arith) c.index-rows-h.is c.index-rows-h-in-loop-j.is c.args.word.now c.requires.1 c.upper.result o.invariant
    c.upper.ensures
