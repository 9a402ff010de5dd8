-- `few_rows`: by straight code, after the highest row of all where that is one of them.
use Rattle.std.proofs.Common.{◌≡◌, ℕ, suc, ◌-◌, ◌<◌, ap, ◌∙◌, subst, arith, add-one}
use Rattle.memory.specs.Memory.{remade, LowReady}
use Rattle.memory.proofs.CodeLaws.{low_asked, low-made, pass_ready}
use Rattle.memory.proofs.ArrayLaws.{same_rows}
use Rattle.memory.proofs.few_rows.Goals as goal

-- ---- the highest row of all stays
pub low_rows-requires : goal.low_rows-requires
low_rows-requires g c =
    let more : suc c.args.high < c.args.m = omega (arith, c.if-k-m.true) in
    let few : c.args.high < 3 = omega arith in
    (omega arith, rw (add-one c.args.high) (low_asked c.requires.2 c.requires.1 few more))

pub returns-then-k-m : goal.returns-then-k-m
returns-then-k-m g c =
    let v = c.args in
    low-made c.requires.2 c.requires.1 (omega (arith, c.if-k-m.true))
    (c.low_rows.ensures ∙ ap (λ (k : ℕ). remade k v.i v.path.now (g.A.Arithmetic.wholes v.rows.now)) (add-one v.high))

-- ---- it is made, and is not the only one
pub low_rows-requires-then-high-gt0 : goal.low_rows-requires-then-high-gt0
low_rows-requires-then-high-gt0 g c =
    let a = g.A.Arithmetic in
    let v = c.args in
    let some = c.if-high-gt0.true in
    let s = same_rows a.whole a.wholes g.met.A.Arithmetic.each_sum v.rows.now c.first_row.new.rows c.requires.1 c.first_row.auto.rows in
    let next = pass_ready c.requires.2 (omega arith) some c.first_row.ensures in
    let ready = low_asked next s (omega (arith, c.requires.2.some)) (omega (arith, c.requires.2.some, some)) in
    let e : suc (v.high - 1) ≡ v.high = omega (arith, some) in
    (some, subst (λ (k : ℕ). LowReady k v.i v.path.now (a.wholes c.first_row.new.rows)) e ready)

pub returns-then-high-gt0 : goal.returns-then-high-gt0
returns-then-high-gt0 g c =
    let a = g.A.Arithmetic in
    let v = c.args in
    let some = c.if-high-gt0.true in
    let s = same_rows a.whole a.wholes g.met.A.Arithmetic.each_sum v.rows.now c.first_row.new.rows c.requires.1 c.first_row.auto.rows in
    let next = pass_ready c.requires.2 (omega arith) some c.first_row.ensures in
    let e : v.high ≡ suc (v.high - 1) = omega (arith, some) in
    low-made next s (omega (arith, c.requires.2.some, some))
    (c.low_rows-then-high-gt0.ensures ∙ ap (λ (k : ℕ). remade k v.i v.path.now (a.wholes c.first_row.new.rows)) e)
