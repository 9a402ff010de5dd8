-- After the tests, the undo map by the places.
use Rattle.std.proofs.Common.{sym}
use Rattle.images.specs.WorkLaws.{bits_map, undone_map}
use Rattle.reorder.specs.OutcomeLaws.{mapped, undoing_does}
use Rattle.reorder.proofs.undo_map.Goals as goal

pub put_undo-requires : goal.put_undo-requires
put_undo-requires c =
    let map = c.in_ok-map.map in
    let sound = bits_map map.m map.table.now map.row.now c.in_ok-take_map.ensures.good in
    let room = rw (← c.in_ok-map.ensures.made.same_m) at c.in_ok-test_room.ensures in
    (mapped map.m c.args.out.now c.args.outrow.now map.mapped.small room, map.mapped.row_long, sound.row_bits)

pub returns : goal.returns
returns c =
    let s = c.args in
    let map = c.in_ok-map.map in
    let same = c.in_ok-map.ensures.made in
    let taken = c.in_ok-take_map.ensures in
    let sound = bits_map map.m map.table.now map.row.now taken.good in
    let both =
    undone_map map.m map.table.now map.row.now map.mapped.small c.take_map.new.images.place taken.places_are sound.can sound.row_bits
    c.put_undo.new.out c.put_undo.new.outrow c.put_undo.ensures in
    let room = rw (← same.same_m) at c.in_ok-test_room.ensures in
    rw (← same.same_m, ← same.same_table, ← same.same_row, both.0, both.1)
    (sym (undoing_does map.m map.table.now map.row.now map.mapped taken.good s.out.now s.outrow.now
    (mapped map.m s.out.now s.outrow.now map.mapped.small room)))
