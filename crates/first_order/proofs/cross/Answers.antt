-- After j passes the first j sums and the first j differences are in their places.
use mathlib.Core.Path.{◌≡◌, ap, ap₂, ◌∙◌}
use Prim.Native.Nat.{◌+◌, ◌≤◌}
use native.Mathlib.Omega.{arith}
use lib.IntN.{pos, nat_abs, ◌+ℤ◌, ◌-ℤ◌}
use lib.ListN.{get_or}
use mir.Syntax.{w32}
use mir.Val.{to_z, of_z}
use mir.Facts.{to_z-of_z}
use Rattle.numbers.specs.PartsLaws.{fits_size}
use Rattle.hadamard.proofs.HadamardLaws.{size-combined}
use Rattle.first_order.specs.CrossLaws.{crossing, crossing-all, read_first, read-second, pair_small, pass_stores}
use Rattle.first_order.proofs.cross.Goals as goal
use Rattle.first_order.proofs.cross.Goals.{After-b-1}

-- what a pass has read
pair : (c : After-b-1)
    → let o = c.loop-j in
    let d = c.args.row.now in
    let h = c.args.h in
    (to_z w32 (of_z w32 (get_or o.row o.j (pos 0))) ≡ get_or d o.j (pos 0))
    × (to_z w32 (of_z w32 (get_or o.row (h + o.j) (pos 0))) ≡ get_or d (h + o.j) (pos 0))
pair c =
    let o = c.loop-j in
    let d = c.args.row.now in
    let h = c.args.h in
    let long = c.requires.0 in (
      to_z-of_z {w = w32} (record { sfits = omega arith }) ∙ read_first d h long o.row o.j (omega arith) (o.invariant long),
      to_z-of_z {w = w32} (record { sfits = omega arith }) ∙ read-second d h long o.row o.j (omega arith) (o.invariant long),
    )

pub overflow_add-row : goal.overflow_add-row
overflow_add-row c =
    let d = c.args.row.now in
    let h = c.args.h in
    let j = c.loop-j.j in
    let x = get_or d j (pos 0) in
    let y = get_or d (h + j) (pos 0) in
    let small : nat_abs (x +ℤ y) ≤ nat_abs x + nat_abs y = size-combined 0 x y in
    rw ((pair c).0, (pair c).1) (fits_size _ (omega (arith, small, pair_small d h c.requires.0 j (omega arith), c.requires.1)))

pub overflow_sub-row : goal.overflow_sub-row
overflow_sub-row c =
    let d = c.args.row.now in
    let h = c.args.h in
    let j = c.loop-j.j in
    let x = get_or d j (pos 0) in
    let y = get_or d (h + j) (pos 0) in
    -- the difference of two, whichever is subtracted from the other
    let small : nat_abs (x -ℤ y) ≤ nat_abs x + nat_abs y = size-combined 1 x y in
    let turned : nat_abs (y -ℤ x) ≤ nat_abs y + nat_abs x = size-combined 1 y x in
    rw ((pair c).0, (pair c).1) (fits_size _ (omega (arith, small, turned, pair_small d h c.requires.0 j (omega arith), c.requires.1)))

pub loop-j-preserved : goal.loop-j-preserved
loop-j-preserved c =
    let o = c.loop-j in
    let d = c.args.row.now in
    let h = c.args.h in
    λ long.
    pass_stores d h long o.row o.j (omega arith) (o.invariant long) _ _
    (to_z-of_z {w = w32} (overflow_add-row c) ∙ ap₂ ◌+ℤ◌ (pair c).0 (pair c).1)
    (to_z-of_z {w = w32} (overflow_sub-row c) ∙ ap₂ ◌-ℤ◌ (pair c).0 (pair c).1)

pub returns : goal.returns
returns c =
    let o = c.loop-j in
    let d = c.args.row.now in
    let h = c.args.h in
    let long = c.requires.0 in
    let e : o.j ≡ h = omega arith in
    o.invariant long ∙ ap (crossing d h long) e ∙ crossing-all d h long
