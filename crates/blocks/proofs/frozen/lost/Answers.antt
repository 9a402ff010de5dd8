-- `frozen::lost` meets its contract: the sum is the penalty of the part that is read.
use mathlib.Core.Path.{◌≡◌, refl, ap, ◌∙◌}
use mathlib.Core.List.{List}
use Prim.Native.Nat.{ℕ, ◌+◌}
use native.Mathlib.Omega.{arith}
use lib.IntN.{ℤ, pos}
use lib.ListN.{get_or, take, replicate}
use lib.Seq.{take_all}
use mir.Syntax.{w32}
use mir.Facts.{to_z-of_z}
use Rattle.decoding.specs.Readings.{penalty, loss}
use Rattle.rows.specs.Rows.{row_of}
use Rattle.rows.specs.RowLaws.{length-row_of}
use Rattle.blocks.specs.FrozenLaws.{sum-size, lost_more, lost_size}
use Rattle.blocks.proofs.frozen.lost.Goals as goal
use Rattle.blocks.proofs.frozen.lost.Goals.{After-loss-p}

pub loop-j-init : goal.loop-j-init
unfolding penalty
loop-j-init c = refl

pub loss-p-requires : goal.loss-p-requires
loss-p-requires c =
    let s = c.args.rows.now in
    rw (to_z-of_z {w = w32} {z = get_or s (16 + c.loop-j.j) (pos 0)} (record { sfits = c.loss-arg-1.given }))
    (omega (arith, sum-size s 16 (omega arith) c.loop-j.j (omega arith)))

-- a sum more
more : (c : After-loss-p) → let g = c.args in
    let o = c.loop-j in
    o.p + c.loss-p.result ≡ penalty (take (o.j + 1) (row_of 16 g.rows.now)) (replicate 16 g.bit)
more c =
    let g = c.args in
    let o = c.loop-j in
    let s = g.rows.now in
    ap (λ (k : ℕ). o.p + k)
    (c.loss-p.ensures ∙ ap (λ (z : ℤ). loss z g.bit) (to_z-of_z {w = w32} {z = get_or s (16 + o.j) (pos 0)} (record { sfits = c.loss-arg-1.given })))
    ∙ lost_more s 16 (omega arith) o.j (omega arith) g.bit o.invariant

pub overflow_add-p : goal.overflow_add-p
overflow_add-p c =
    let g = c in
    let s = g.args.rows.now in
    record {
      fits = omega (arith, more c, lost_size (row_of 16 s) (c.loop-j.j + 1) (replicate 16 g.args.bit), g.requires);
    }

pub loop-j-preserved : goal.loop-j-preserved
loop-j-preserved c = more c

pub returns : goal.returns
returns c =
    let g = c.args in
    let row = row_of 16 g.rows.now in
    c.loop-j.invariant
    ∙ ap (λ (k : List ℤ). penalty k (replicate 16 g.bit)) (take_all c.loop-j.j row (omega (arith, length-row_of 16 g.rows.now (omega arith))))
