-- After j passes the largest of the first j keys is held.
use Rattle.std.specs.Prelude.{◌≡◌, ℕ, ◌+◌, ◌*◌, max, pos, nat_abs, get_or}
use Rattle.std.proofs.Common.{ap, ◌∙◌, arith, to_z-of_z}
use Rattle.std.specs.Int.{w32}
use Rattle.first_order.specs.Work.{key_at}
use Rattle.first_order.specs.TopLaws.{top_more}
use Rattle.first_order.proofs.top_key.Goals as goal

pub loop-j-preserved : goal.loop-j-preserved
loop-j-preserved c =
    let o = c.loop-j in
    let l = c.args.row.now in
    let f = key_at l in
    let read = to_z-of_z {w = w32} {z = get_or l o.j (pos 0)} (record { sfits = omega arith }) in
    let e : c.max-most.result ≡ max o.most (f o.j) =
    c.max-most.ensures ∙ ap (λ (s : ℕ). max (s * 256 + o.j) o.most) (c.unsigned_abs.ensures.value ∙ ap nat_abs read) ∙ omega arith in
    rw e (top_more f o.j o.most o.invariant)
