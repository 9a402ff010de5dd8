-- After the tests, the product by the images of the first map.
use Rattle.std.proofs.Common.{◌≡◌, ◌∙◌, sym, arith}
use Rattle.images.specs.WorkLaws.{bits_map, row_number, product_put}
use Rattle.reorder.specs.OutcomeLaws.{mapped, multiplying_does}
use Rattle.reorder.proofs.product_map.Goals as goal

pub column-added-requires : goal.column-added-requires
column-added-requires c =
    let first = c.in_ok-first.first in
    let sound = bits_map first.m first.table.now first.row.now c.in_ok-take_map-2.ensures.good in
    (first.mapped.small, omega arith, omega (arith, first.mapped.row_long), sound.row_bits)

pub put_product-requires : goal.put_product-requires
put_product-requires c =
    let second = c.in_ok-second.second in
    let sound = bits_map second.m second.table.now second.row.now c.in_ok-take_map.ensures.good in
    let room = rw (← c.in_ok-second.ensures.made.same_m) at c.in_ok-test_room.ensures in
    (mapped second.m c.args.out.now c.args.outrow.now second.mapped.small room, sound.table_bits, sound.row_bits)

pub returns : goal.returns
returns c =
    let s = c.args in
    let first = c.in_ok-first.first in
    let second = c.in_ok-second.second in
    let same = c.in_ok-first.ensures.made in
    let same' = c.in_ok-second.ensures.made in
    let same_m : second.m ≡ first.m = same'.same_m ∙ sym same.same_m in
    let taken = c.in_ok-take_map-2.ensures in
    let sound = bits_map first.m first.table.now first.row.now taken.good in
    let sound' = bits_map second.m second.table.now second.row.now c.in_ok-take_map.ensures.good in
    let room = rw (← same.same_m) at c.in_ok-test_room.ensures in
    let both =
    product_put first.m first.table.now first.row.now second.table.now second.row.now sound.row_bits sound'.table_bits sound'.row_bits
    c.take_map-2.new.images.image taken.images_are c.column-added.result (c.column-added.ensures ∙ row_number first.m first.row.now)
    c.put_product.new.out c.put_product.new.outrow (rw same_m at c.put_product.ensures) in
    rw (← same.same_m, ← same.same_table, ← same.same_row, ← same'.same_table, ← same'.same_row, both.0, both.1)
    (sym
    (multiplying_does first.m first.table.now first.row.now first.mapped taken.good second.table.now second.row.now (rw same_m at second.mapped)
    s.out.now s.outrow.now (mapped first.m s.out.now s.outrow.now first.mapped.small room) (rw same_m at c.in_ok-take_map.ensures.good)))
