-- `any_value`: the highest row that changes, and all below it, the lowest three by straight code where m is at least 4.
use Rattle.std.proofs.Common.{ℕ, suc, ◌-◌, ◌<◌, ap, ◌∙◌, arith, add-one}
use Rattle.memory.specs.Memory.{remade}
use Rattle.memory.proofs.CodeLaws.{low_asked, low-made, first-ready, pass_ready}
use Rattle.memory.proofs.ArrayLaws.{arrays, same_rows, value_read, single_read}
use Rattle.memory.proofs.any_value.Goals as goal

pub returns-then-m-eq0 : goal.returns-then-m-eq0
returns-then-m-eq0 g c =
    let a = g.A.Arithmetic in
    let p = c.index-readings-0 in
    single_read a.read a.reads g.met.A.Arithmetic.each_reading c.args.readings.now p.result _ c.if-m-eq0.true (omega arith) p.is c.of_reading.ensures.0

pub few_rows-requires : goal.few_rows-requires
few_rows-requires g c =
    let a = g.A.Arithmetic in
    let s = arrays a.whole a.wholes g.met.A.Arithmetic.each_sum c.args.rows.now (omega arith) (omega arith) c.requires.bits in
    (omega arith, (c.if-m-lt4.true, s, first-ready c.requires c.top-high.ensures))

pub returns-then-m-lt4 : goal.returns-then-m-lt4
returns-then-m-lt4 g c =
    let a = g.A.Arithmetic in
    let x = c.index-rows-1 in
    value_read a.whole a.wholes g.met.A.Arithmetic.each_sum c.few_rows.new.rows x.result c.requires (omega arith) (omega arith) (omega arith) x.is
    c.few_rows.ensures

pub low_rows-requires : goal.low_rows-requires
low_rows-requires g c =
    let a = g.A.Arithmetic in
    let t = c.top-high in
    let few : t.result < 3 = omega arith in
    let more : suc t.result < c.args.m = omega arith in
    let s = arrays a.whole a.wholes g.met.A.Arithmetic.each_sum c.args.rows.now (omega arith) (omega arith) c.requires.bits in
    (omega arith, rw (add-one t.result) (low_asked (first-ready c.requires t.ensures) s few more))

pub returns-then-high-lt3 : goal.returns-then-high-lt3
returns-then-high-lt3 g c =
    let a = g.A.Arithmetic in
    let each = g.met.A.Arithmetic.each_sum in
    let t = c.top-high in
    let v = c.args in
    let x = c.index-rows-1-then-high-lt3 in
    let s = arrays a.whole a.wholes each v.rows.now (omega arith) (omega arith) c.requires.bits in
    let made = low-made (first-ready c.requires t.ensures) s (omega arith)
    (c.low_rows.ensures ∙ ap (λ (k : ℕ). remade k v.i v.path.now (a.wholes v.rows.now)) (add-one t.result)) in
    value_read a.whole a.wholes each c.low_rows.new.rows x.result c.requires (omega arith) (omega arith) (omega arith) x.is made

pub make_rows-requires : goal.make_rows-requires
make_rows-requires g c =
    let a = g.A.Arithmetic in
    let s = arrays a.whole a.wholes g.met.A.Arithmetic.each_sum c.args.rows.now (omega arith) (omega arith) c.requires.bits in
    (omega arith, (s, first-ready c.requires c.top-high.ensures))

pub low_rows-requires-2 : goal.low_rows-requires-2
low_rows-requires-2 g c =
    let a = g.A.Arithmetic in
    let each = g.met.A.Arithmetic.each_sum in
    let s = arrays a.whole a.wholes each c.args.rows.now (omega arith) (omega arith) c.requires.bits in
    let ready = pass_ready (first-ready c.requires c.top-high.ensures) (omega arith) (omega arith) c.make_rows.ensures in
    let more : suc (3 - 1) < c.args.m = omega arith in
    (omega arith, low_asked ready (same_rows a.whole a.wholes each c.args.rows.now c.make_rows.new.rows s c.make_rows.auto.rows) (omega arith) more)

pub returns : goal.returns
returns g c =
    let a = g.A.Arithmetic in
    let each = g.met.A.Arithmetic.each_sum in
    let x = c.index-rows-1-2 in
    let s = arrays a.whole a.wholes each c.args.rows.now (omega arith) (omega arith) c.requires.bits in
    let t = same_rows a.whole a.wholes each c.args.rows.now c.make_rows.new.rows s c.make_rows.auto.rows in
    let ready = pass_ready (first-ready c.requires c.top-high.ensures) (omega arith) (omega arith) c.make_rows.ensures in
    let more : suc (3 - 1) < c.args.m = omega arith in
    value_read a.whole a.wholes each c.low_rows-2.new.rows x.result c.requires (omega arith) (omega arith) (omega arith) x.is
    (low-made ready t more c.low_rows-2.ensures)
