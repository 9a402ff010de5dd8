-- Floats' `lower` meets its contract.
use mathlib.Core.Path.{◌≡◌, ap, ap₂, sym, ◌∙◌}
use Prim.Native.Nat.{◌<◌}
use lib.IntN.{pos, nat_abs, neg_ℤ, ◌-ℤ◌, +ℤ_idl}
use lib.Ieee.{neg}
use Rattle.decoding.specs.Readings.{sum_limit}
use Rattle.rows.specs.Order.{greater}
use Rattle.rows.specs.OrderLaws.{size-lesser, size-greater, size-turned, lower_by_order}
use Rattle.float_numbers.specs.Whole.{whole_of}
use Rattle.float_numbers.proofs.WholeLaws.{whole_neg}
use Rattle.float_rows.proofs.FloatArithmetic.lower.Goals as goal
use Rattle.float_rows.proofs.FloatArithmetic.lower.Goals.{After-greater-turned}

-- minus the greater
turned-is : (c : After-greater-turned)
    → let s = c in whole_of (neg c.greater-turned.result) ≡ pos 0 -ℤ greater (whole_of s.args.x) (whole_of s.args.y)
turned-is c =
    let s = c in
    let x = whole_of s.args.x in
    let y = whole_of s.args.y in
    let small : nat_abs (whole_of c.greater-turned.result) < sum_limit = rw c.greater-turned.ensures (size-greater x y sum_limit s.requires.0 s.requires.1) in
    whole_neg c.greater-turned.result small ∙ ap neg_ℤ c.greater-turned.ensures ∙ sym (+ℤ_idl (neg_ℤ (greater x y)))

pub greater-requires : goal.greater-requires
greater-requires c =
    let s = c in
    let x = whole_of s.args.x in
    let y = whole_of s.args.y in (
      rw c.lesser.ensures (size-lesser x y sum_limit s.requires.0 s.requires.1),
      rw (turned-is ((goal.at.greater-requires c).After-greater-turned))
          (size-turned (greater x y) sum_limit (size-greater x y sum_limit s.requires.0 s.requires.1)),
    )

pub returns : goal.returns
returns c =
    let s = c in
    c.greater.ensures
    ∙ ap₂ greater c.lesser.ensures (turned-is ((goal.at.returns c).After-greater-turned))
    ∙ lower_by_order (whole_of s.args.x) (whole_of s.args.y)
