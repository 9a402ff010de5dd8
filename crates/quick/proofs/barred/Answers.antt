-- `barred`: what is found from i on, and what was found before.
use Rattle.std.specs.Prelude.{◌≡◌, Bool, ℕ, ◌-◌, ℤ, pos, length, get_or}
use Rattle.std.proofs.Common.{ap, sym, ◌∙◌, arith, SFits, to_z, of_z, to_z-of_z}
use Rattle.std.specs.Int.{w32}
use Rattle.quick.specs.Engine.{bars}
use Rattle.quick.specs.BarredLaws.{barred_at, bar_more}
use Rattle.quick.proofs.barred.Goals as goal

-- a sum as it is handed over
handed : (k : ℕ) (x : ℤ) → SFits w32 x → (t : Bool) → t ≡ bars k (to_z w32 (of_z w32 x)) → t ≡ bars k x
handed k x f t e = e ∙ ap (bars k) (to_z-of_z f)

pub returns-then-bars-2 : goal.returns-then-bars-2
returns-then-bars-2 c =
    let ks = c.args.kinds.now in
    let row = c.args.row.now in
    let last = length ks - 1 in
    let is = handed (get_or ks last 0) (get_or row last (pos 0)) (record { sfits = omega arith }) _ c.bars-2.ensures in
    sym (barred_at ks row last (omega arith) (omega arith) (sym is ∙ c.if-bars-2.true))

pub loop-i-preserved : goal.loop-i-preserved
loop-i-preserved c =
    let l = c.loop-i in
    let ks = c.args.kinds.now in
    let row = c.args.row.now in
    let is = handed (get_or ks l.i 0) (get_or row l.i (pos 0)) (record { sfits = omega arith }) _ c.bars-some.ensures in
    rw is (bar_more ks row l.i l.some l.invariant (omega arith) (omega arith))
