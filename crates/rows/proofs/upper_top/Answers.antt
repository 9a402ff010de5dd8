-- `rows::upper_top` meets its contract.
use Rattle.std.proofs.Common.{refl, ◌∙◌, arith}
use Rattle.rows.specs.RowLaws.{pair-sizes}
use Rattle.rows.specs.SumLaws.{length-wholes, top-pair, upper-stored}
use Rattle.rows.proofs.upper_top.Goals as goal

pub upper-requires : goal.upper-requires
upper-requires g c =
    let a = g.A.Arithmetic in
    let law = g.met.A.Arithmetic in
    let o = c.loop-j in
    let x = c.of_reading-x in
    let y = c.of_reading-y in
    let pair = top-pair a.read a.reads law.each_reading c.args.readings.now c.args.h o.j c.index-readings-j.result c.index-readings-h.result _ _
    c.requires.0 (omega arith) c.index-readings-j.is c.index-readings-h.is refl refl in
    rw (x.ensures.0, y.ensures.0) (law.small _ _ _ c.requires.3 x.ensures.1 y.ensures.1 (pair-sizes _ _ _ _ _ pair (omega arith)))

pub loop-j-preserved : goal.loop-j-preserved
loop-j-preserved g c =
    let a = g.A.Arithmetic in
    let law = g.met.A.Arithmetic in
    let o = c.loop-j in
    let pair = top-pair a.read a.reads law.each_reading c.args.readings.now c.args.h o.j c.index-readings-j.result c.index-readings-h.result _ _
    c.requires.0 (omega arith) c.index-readings-j.is c.index-readings-h.is c.of_reading-x.ensures.0 c.of_reading-y.ensures.0 in
    upper-stored a.whole a.wholes law.each_sum c.args.rows.now o.rows _ c.args.h o.j _ _ c.upper.result (omega arith)
    (length-wholes a.read a.reads law.each_reading c.args.readings.now ∙ c.requires.0) (omega arith) pair c.args.word.now c.requires.2 o.invariant
    c.upper.ensures
