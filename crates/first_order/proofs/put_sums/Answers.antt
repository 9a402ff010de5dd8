-- After j passes the row has the first j readings.
use Rattle.std.specs.Prelude.{◌≡◌, ℤ, pos, get_or}
use Rattle.std.proofs.Common.{◌∙◌, add-one, arith, to_z-of_z}
use Rattle.std.specs.Int.{w16, w32}
use Rattle.numbers.specs.Front.{front-suc}
use Rattle.first_order.proofs.put_sums.Goals as goal

pub loop-j-preserved : goal.loop-j-preserved
loop-j-preserved c =
    let o = c.loop-j in
    let d = c.args.row.now in
    let l = c.args.readings.now in
    let z : ℤ = get_or l o.j (pos 0) in
    let is : c.from.result ≡ z = c.from.ensures ∙ to_z-of_z {w = w16} {z = z} (record { sfits = omega arith }) in
    let read = to_z-of_z {w = w32} {z = c.from.result} (record { sfits = omega arith }) ∙ is in
    rw (add-one o.j, read, o.invariant) (front-suc d l o.j (pos 0) (omega (arith, c.requires)) (omega arith))
