-- `record::put_record` meets its contract: the first byte, and after it the packed part.
use mathlib.Core.Path.{◌≡◌, ap, ◌∙◌, sym}
use mathlib.Core.List.{List, ◌∷◌}
use Prim.Native.Nat.{ℕ, ◌+◌, ◌-◌, ◌*◌}
use native.Mathlib.Omega.{arith}
use lib.ListN.{length, length-set, set}
use borrow.Rule.Slice.PartMut.{mid_len, same_len_mid}
use Rattle.packing.specs.Layout.{packed}
use Rattle.packing.specs.LayoutLaws.{record_parts}
use Rattle.packing.specs.PairLaws.{first-and-rest}
use Rattle.record.proofs.put_record.Goals as goal

pub bounds-bytes-0 : goal.bounds-bytes-0
bounds-bytes-0 c =
    let g = c in
    omega (arith, ap length (record_parts g.args.code.r g.args.code.m g.args.readings.now))

pub slice_bounds-put_packed-count : goal.slice_bounds-put_packed-count
slice_bounds-put_packed-count c = let g = c in omega (arith, ap length (record_parts g.args.code.r g.args.code.m g.args.readings.now))

pub slice_bounds-put_packed-start : goal.slice_bounds-put_packed-start
slice_bounds-put_packed-start c =
    let g = c in
    omega (arith, ap length (record_parts g.args.code.r g.args.code.m g.args.readings.now))

pub put_packed-requires : goal.put_packed-requires
put_packed-requires c =
    let g = c in
    let b = g.args.bytes.now in
    let e : length b - 1 ≡ length (packed g.args.readings.now) =
    omega (arith, g.requires.2, ap length (record_parts g.args.code.r g.args.code.m g.args.readings.now)) in
    (g.requires.1, mid_len 1 (length b) (set b 0 _) (simp length-set (omega arith)) ∙ e)

pub shape_of-bytes : goal.shape_of-bytes
shape_of-bytes c =
    let g = c.args in
    let b = g.bytes.now in
    let put = c.put_packed in
    same_len_mid 1 (length b - 1) (set b 0 _) put.new.part put.auto.part ∙ length-set b 0 _

pub returns : goal.returns
returns c =
    let g = c in
    let b = g.args.bytes.now in
    let v = 16 * g.args.code.m + g.args.code.r in
    let put = c.put_packed in
    first-and-rest b put.new.part v (omega (arith, g.requires.2, ap length (record_parts g.args.code.r g.args.code.m g.args.readings.now)))
    ∙ ap (λ (q : List ℕ). v ∷ q) put.ensures
    ∙ sym (record_parts g.args.code.r g.args.code.m g.args.readings.now)
