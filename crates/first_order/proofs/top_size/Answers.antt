-- The largest of the sizes that are passed is held.
use Rattle.std.specs.Prelude.{ℕ, ◌≡◌, max, pos, nat_abs, get_or}
use Rattle.std.proofs.Common.{ap, ◌∙◌, arith, to_z-of_z}
use Rattle.std.specs.Int.{w32}
use Rattle.first_order.specs.Work.{size_at}
use Rattle.first_order.specs.TopLaws.{top_more}
use Rattle.first_order.proofs.top_size.Goals as goal

pub loop-entry-preserved : goal.loop-entry-preserved
loop-entry-preserved c =
    let o = c.loop-entry in
    let l = c.args.row.now in
    let f = size_at l in
    let j = o.entry-index in
    let read = to_z-of_z {w = w32} {z = get_or l j (pos 0)} (record { sfits = omega arith }) in
    let e : c.max-most.result ≡ max o.most (f j) =
    c.max-most.ensures ∙ ap (λ (s : ℕ). max s o.most) (c.unsigned_abs.ensures.value ∙ ap nat_abs read) ∙ omega arith in
    rw e (top_more f j o.most o.invariant)
