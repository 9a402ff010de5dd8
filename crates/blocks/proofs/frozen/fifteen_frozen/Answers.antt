-- `frozen::fifteen_frozen` meets its contract: what was found among the first j kinds.
use mathlib.Core.Path.{◌≡◌, ap, sym, ◌∙◌, refl}
use Prim.Native.Nat.{ℕ}
use native.Mathlib.Omega.{arith}
use lib.ListN.{take, drop, length-drop}
use lib.Seq.{get_or-drop}
use lib.Dec.{ltb}
use Rattle.numbers.specs.Sums.{sum}
use Rattle.blocks.specs.FrozenLaws.{some_more, all_frozen_lem}
use Rattle.blocks.proofs.frozen.fifteen_frozen.Goals as goal

pub loop-j-init : goal.loop-j-init
unfolding sum
loop-j-init c = refl

pub loop-j-preserved : goal.loop-j-preserved
loop-j-preserved c =
    let g = c.args in
    let o = c.loop-j in
    let ks = drop g.i g.kinds.now in
    some_more ks o.j _ (simp length-drop (omega arith)) (sym (get_or-drop g.i g.kinds.now o.j 0)) o.invariant

pub returns : goal.returns
returns c =
    let g = c.args in
    let o = c.loop-j in
    let ks = drop g.i g.kinds.now in
    let e : o.j ≡ 15 = omega arith in
    all_frozen_lem (take 15 ks) (o.invariant ∙ ap (λ (k : ℕ). ltb 0 (sum (take k ks))) e)
