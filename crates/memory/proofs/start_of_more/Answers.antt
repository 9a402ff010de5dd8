-- `start_of_more`: from the row of 2^u sums on the rows are made for i; the last three by their lengths as constants.
use Rattle.std.proofs.Common.{◌-◌, refl, arith, pow_mono}
use Rattle.memory.proofs.ArrayLaws.{same_rows, from_above, start_asks, start_next}
use Rattle.memory.proofs.start_of_more.Goals as goal

pub loop-u-init : goal.loop-u-init
loop-u-init g c =
    let a = g.A.Arithmetic in
    (same_rows a.whole a.wholes g.met.A.Arithmetic.each_sum c.args.rows.now c.first_row.new.rows c.requires.2 c.first_row.auto.rows, c.first_row.ensures)

pub power-requires : goal.power-requires
power-requires g c =
    let r = c.requires.3 in
    omega (arith, r.room, r.some, c.loop-u.auto.u, pow_mono {i = c.loop-u.u - 1} {j = c.args.m} (omega (arith, r.some, c.loop-u.auto.u)))

pub lower_row-requires : goal.lower_row-requires
lower_row-requires g c =
    let a = g.A.Arithmetic in
    let o = c.loop-u in
    start_asks a.whole a.wholes g.met.A.Arithmetic.each_sum o.rows c.requires.3 o.auto.u (omega arith) o.invariant c.power.result c.power.ensures

pub loop-u-preserved : goal.loop-u-preserved
loop-u-preserved g c =
    let a = g.A.Arithmetic in
    let o = c.loop-u in
    start_next a.whole a.wholes g.met.A.Arithmetic.each_sum o.rows c.requires.3 o.auto.u (omega arith) o.invariant c.power.result c.power.ensures
    c.lower_row.new.rows c.requires.1 c.lower_row.auto.rows c.lower_row.ensures

-- ---- after the loop
pub lower_row-requires-2 : goal.lower_row-requires-2
lower_row-requires-2 g c =
    let a = g.A.Arithmetic in
    let each = g.met.A.Arithmetic.each_sum in
    let eight = from_above a.whole a.wholes each 3 c.loop-u.rows (omega arith) c.loop-u.invariant in
    start_asks a.whole a.wholes each c.loop-u.rows c.requires.3 c.requires.0 (omega arith) eight 4 refl

pub lower_row-requires-3 : goal.lower_row-requires-3
lower_row-requires-3 g c =
    let a = g.A.Arithmetic in
    let each = g.met.A.Arithmetic.each_sum in
    let r = c.requires.3 in
    let eight = from_above a.whole a.wholes each 3 c.loop-u.rows (omega arith) c.loop-u.invariant in
    let four = start_next a.whole a.wholes each c.loop-u.rows r c.requires.0 (omega arith) eight 4 refl
    c.lower_row-2.new.rows c.requires.1 c.lower_row-2.auto.rows c.lower_row-2.ensures in
    start_asks a.whole a.wholes each c.lower_row-2.new.rows r (omega (arith, c.requires.0)) (omega arith) four 2 refl

pub lower_row-requires-4 : goal.lower_row-requires-4
lower_row-requires-4 g c =
    let a = g.A.Arithmetic in
    let each = g.met.A.Arithmetic.each_sum in
    let r = c.requires.3 in
    let eight = from_above a.whole a.wholes each 3 c.loop-u.rows (omega arith) c.loop-u.invariant in
    let four = start_next a.whole a.wholes each c.loop-u.rows r c.requires.0 (omega arith) eight 4 refl
    c.lower_row-2.new.rows c.requires.1 c.lower_row-2.auto.rows c.lower_row-2.ensures in
    let two = start_next a.whole a.wholes each c.lower_row-2.new.rows r (omega (arith, c.requires.0)) (omega arith) four 2 refl
    c.lower_row-3.new.rows c.requires.1 c.lower_row-3.auto.rows c.lower_row-3.ensures in
    start_asks a.whole a.wholes each c.lower_row-3.new.rows r (omega (arith, c.requires.0)) (omega arith) two 1 refl

pub returns : goal.returns
returns g c =
    let a = g.A.Arithmetic in
    let each = g.met.A.Arithmetic.each_sum in
    let r = c.requires.3 in
    let eight = from_above a.whole a.wholes each 3 c.loop-u.rows (omega arith) c.loop-u.invariant in
    let four = start_next a.whole a.wholes each c.loop-u.rows r c.requires.0 (omega arith) eight 4 refl
    c.lower_row-2.new.rows c.requires.1 c.lower_row-2.auto.rows c.lower_row-2.ensures in
    let two = start_next a.whole a.wholes each c.lower_row-2.new.rows r (omega (arith, c.requires.0)) (omega arith) four 2 refl
    c.lower_row-3.new.rows c.requires.1 c.lower_row-3.auto.rows c.lower_row-3.ensures in
    (start_next a.whole a.wholes each c.lower_row-3.new.rows r (omega (arith, c.requires.0)) (omega arith) two 1 refl
    c.lower_row-4.new.rows c.requires.1 c.lower_row-4.auto.rows c.lower_row-4.ensures).1
