-- After the tests, the move.
use Rattle.std.proofs.Common.{◌≡◌, ◌∙◌, ◌^◌, sym, length, arith}
use Rattle.code.specs.Entries.{first_above}
use Rattle.code.specs.AdmittedLaws.{entry_ok}
use Rattle.images.specs.ArrayLaws.{shifted}
use Rattle.images.specs.WorkLaws.{bits_map, row_number, moves_map, moved-map}
use Rattle.reorder.specs.OutcomeLaws.{reordering_does}
use Rattle.reorder.proofs.reorder_entries.Goals as goal

pub column-added-requires : goal.column-added-requires
column-added-requires g c =
    let map = c.in_ok-map.map in
    let sound = bits_map map.m map.table.now map.row.now c.in_ok-take_map.ensures.good in
    (map.mapped.small, omega arith, omega (arith, map.mapped.row_long), sound.row_bits)

pub move_entries-requires : goal.move_entries-requires
move_entries-requires g c =
    let map = c.in_ok-map.map in
    let taken = c.in_ok-take_map.ensures in
    let sound = bits_map map.m map.table.now map.row.now taken.good in
    let power = shifted map.m map.mapped.small in
    moves_map map.m map.table.now map.row.now sound.row_bits c.take_map.new.images.image taken.images_are c.column-added.result
    (c.column-added.ensures ∙ row_number map.m map.row.now) c.args.entries.now (c.if-entries-n.false ∙ power) c.args.out.now (c.if-out-n.false ∙ power)
    map.mapped.small (omega arith)

pub returns : goal.returns
returns g c d =
    let map = c.in_ok-map.map in
    let same = c.in_ok-map.ensures.made in
    let taken = c.in_ok-take_map.ensures in
    let sound = bits_map map.m map.table.now map.row.now taken.good in
    let long : length c.args.entries.now ≡ 2 ^ map.m = c.if-entries-n.false ∙ shifted map.m map.mapped.small in
    let room : length c.args.out.now ≡ 2 ^ map.m = c.if-out-n.false ∙ shifted map.m map.mapped.small in
    let fine = entry_ok (first_above g.T.Entry.size g.T.Entry.limit c.args.entries.now) (length c.args.entries.now) (sym c.in_ok-test.ensures) in
    let moved =
    moved-map map.m map.table.now map.row.now sound.row_bits c.take_map.new.images.image taken.images_are c.column-added.result
    (c.column-added.ensures ∙ row_number map.m map.row.now) c.args.entries.now long d in
    rw (← same.same_m, ← same.same_table, ← same.same_row, c.move_entries.ensures d, moved)
    (sym (reordering_does map.m map.table.now map.row.now map.mapped taken.good d _ _ c.args.entries.now c.args.out.now long fine room))
