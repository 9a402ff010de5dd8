-- Whole numbers' `lower` meets its contract.
use Rattle.std.proofs.Common.{ap, ap₂, ◌∙◌, pos, ◌-ℤ◌, arith, to_z-of_z, w32}
use Rattle.std.specs.Int.{int_min, int_max}
use Rattle.rows.specs.OrderLaws.{lower_by_max, turned-fits}
use Rattle.rows.proofs.WholeArithmetic.lower.Goals as goal

pub returns : goal.returns
returns c =
    let x = c.args.x in
    let y = c.args.y in
    let most = c.max-turned.ensures.value ∙ ap₂ int_max (to_z-of_z c.ranges.x) (to_z-of_z c.ranges.y) in
    let least = c.min.ensures.value ∙ ap₂ int_min (to_z-of_z c.ranges.x) (to_z-of_z c.ranges.y) in
    let turned = ap (λ z. pos 0 -ℤ z) (to_z-of_z {w = w32} (record { sfits = c.max-turned.type_inv }) ∙ most) in
    to_z-of_z {w = w32} (record { sfits = c.max.type_inv })
    ∙ c.max.ensures.value
    ∙ ap₂ int_max (to_z-of_z {w = w32} (record { sfits = c.min.type_inv }) ∙ least)
    (rw turned (to_z-of_z {w = w32} (turned-fits x y (omega arith) (omega arith))))
    ∙ lower_by_max x y
