-- `all_chosen`: a kind more.
use Rattle.std.proofs.Common.{◌≡◌, refl, ◌∙◌, arith, add-one, get_or-take, get_or-drop, ◌-◌, ◌+◌, ◌<◌, get_or, take, drop, length-take}
use Rattle.blocks.specs.Information.{all_chosen}
use Rattle.blocks.proofs.information.all_chosen.Goals as goal

pub loop-kind-init : goal.loop-kind-init
unfolding all_chosen
loop-kind-init c = refl

pub loop-kind-preserved : goal.loop-kind-preserved
unfolding all_chosen
loop-kind-preserved c =
    let ks = c.args.kinds.now in
    let i = c.args.i in
    let j = c.loop-kind.kind-index in
    let n = i + c.args.n - i in
    let within : j < n = omega (arith, length-take n (drop i ks)) in
    let is : get_or (take n (drop i ks)) j 0 ≡ get_or ks (i + j) 0 = get_or-take n (drop i ks) j 0 within ∙ get_or-drop i ks j 0 in
    rw (add-one, is, c.loop-kind.invariant) refl
