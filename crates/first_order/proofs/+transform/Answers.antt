-- The transform by halves: after `cross` each half is transformed, sixteen entries at once.
use Prim.Native.Nat.{ℕ, ◌^◌, ◌/◌}
use mathlib.Core.Path.{ap, sym, ◌∙◌}
use native.Mathlib.Omega.{arith}
use lib.ListN.{length}
use Rattle.numbers.specs.Halves.{halved}
use Rattle.hadamard.specs.Hadamard.{hadamard}
use Rattle.first_order.specs.CrossLaws.{first_asked, second_asked, both_transformed}
use Rattle.first_order.proofs.+transform.Goals as goal

pub returns-then-m-eq0 : goal.returns-then-m-eq0
unfolding hadamard
returns-then-m-eq0 t c = sym (ap (λ (k : ℕ). hadamard k c.args.row.now) c.if-m-eq0.true)

pub cross-requires : goal.cross-requires
cross-requires t c =
    let H = halved (length c.args.row.now) c.args.m c.requires.0 c.if-m-eq0.false in
    (H.whole, c.requires.1)

pub transform-requires : goal.transform-requires
transform-requires t c =
    let x = c.args.row.now in
    let h = length x / 2 in
    let H = halved (length x) c.args.m c.requires.0 c.if-m-eq0.false in
    let q = first_asked x h H.whole c.cross.new.row c.cross.ensures (2 ^ 31) c.requires.1 in
    (omega (arith, H.above), (q.0 ∙ H.half, q.1))

pub transform-requires-2 : goal.transform-requires-2
transform-requires-2 t c =
    let x = c.args.row.now in
    let h = length x / 2 in
    let H = halved (length x) c.args.m c.requires.0 c.if-m-eq0.false in
    let q = second_asked x h H.whole c.cross.new.row c.cross.ensures c.transform.new.row c.transform.auto.row (2 ^ 31) c.requires.1 in
    (omega (arith, H.above), (q.0 ∙ H.half, q.1))

pub returns : goal.returns
returns t c =
    let x = c.args.row.now in
    let h = length x / 2 in
    let H = halved (length x) c.args.m c.requires.0 c.if-m-eq0.false in
    both_transformed x h H.whole c.cross.new.row c.cross.ensures c.transform.new.row c.transform.auto.row c.transform-2.new.row c.transform-2.auto.row
    c.args.m H.half H.above c.transform.ensures c.transform-2.ensures
