-- The readings are put into the row, which is transformed and looked at.
use mathlib.Core.Path.{◌≡◌, ap, sym, ◌∙◌, subst}
use Prim.Native.Nat.{◌^◌, ◌-◌}
use native.Mathlib.Omega.{arith}
use lib.ListN.{length}
use Rattle.decoding.specs.Readings.{Within}
use Rattle.hadamard.specs.Hadamard.{hadamard}
use Rattle.hadamard.proofs.HadamardLaws.{length-hadamard, hadamard_within}
use Rattle.first_order.specs.OutcomeLaws.{two_or_more, power_most}
use Rattle.first_order.proofs.find.Goals as goal

pub look-requires : goal.look-requires
look-requires c =
    let m = c.args.m in
    let l = c.args.readings.now in
    let t = c.transform in
    let is : t.new.row ≡ hadamard m l = t.ensures ∙ ap (hadamard m) c.put_sums.ensures in
    let long : length t.new.row ≡ 2 ^ m = ap length is ∙ length-hadamard m l c.requires.2 in (
      omega (arith, two_or_more m c.requires.0),
      omega (arith, power_most m c.requires.1),
      subst (Within (2 ^ 24 - 1)) (sym is) (hadamard_within m (2 ^ 24 - 1) l (omega (arith, c.requires.4))),
    )
