-- `first_row`: from the readings where it is the highest of all, else from the row above it.
use Rattle.std.proofs.Common.{◌≡◌, List, suc, ◌-◌, ◌^◌, ◌<◌, ℤ, length, take, ap, sym, ◌∙◌, subst, arith}
use Rattle.decoding.specs.Readings.{sizes, sum_limit}
use Rattle.rows.specs.Rows.{with_row}
use Rattle.rows.specs.SumLaws.{length-wholes}
use Rattle.memory.specs.Memory.{below}
use Rattle.memory.proofs.CodeLaws.{short, top_long, top_fits, top_made, row_fits, row_small, row_made}
use Rattle.memory.proofs.ArrayLaws.{wholes-front}
use Rattle.memory.proofs.first_row.Goals as goal

pub top_row-requires : goal.top_row-requires
top_row-requires g c =
    let a = g.A.Arithmetic in
    let law = g.met.A.Arithmetic in
    let s = c.requires.0 in
    let r = c.requires.1 in
    let e : suc c.args.t ≡ c.args.m = omega (arith, c.if-t-m.true) in
    let n = c.power-n.result in
    let l = c.args.readings.now in
    let cut = wholes-front a.read a.reads law.each_reading n c.args.m l c.power-n.ensures in
    let long = sym (length-wholes a.read a.reads law.each_reading (take (n - 0) l)) ∙ ap length cut ∙ top_long r s e in
    (top_fits r s, short r s, s, long, subst (λ (k : List ℤ). sizes k < sum_limit) (sym cut) r.small)

pub returns-then-t-m : goal.returns-then-t-m
returns-then-t-m g c =
    let a = g.A.Arithmetic in
    let v = c.args in
    let cut = wholes-front a.read a.reads g.met.A.Arithmetic.each_reading c.power-n.result v.m v.readings.now c.power-n.ensures in
    top_made c.requires.1 c.requires.0 (omega (arith, c.if-t-m.true))
    (c.top_row.ensures ∙ ap (λ (k : List ℤ). with_row (2 ^ v.t) (a.wholes v.rows.now) (below v.t v.i v.path.now k)) cut)

pub row-requires : goal.row-requires
row-requires g c =
    let s = c.requires.0 in
    let r = c.requires.1 in
    let more : suc c.args.t < c.args.m = omega (arith, r.some, c.if-t-m.false) in
    (row_fits r s more, short r s, s, row_small r s more)

pub returns : goal.returns
returns g c = row_made c.requires.1 c.requires.0 (omega (arith, c.requires.1.some, c.if-t-m.false)) c.row.ensures
