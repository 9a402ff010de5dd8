-- The bytes are tested before the images are made.
use Rattle.std.proofs.Common.{◌≤◌, length, sym, ◌∙◌}
use Rattle.code.specs.Entries.{first_bad_bit}
use Rattle.code.specs.EntriesLaws.{good_bits}
use Rattle.images.specs.ArrayLaws.{shifted}
use Rattle.images.specs.WorkLaws.{taken, not_apart_taken}
use Rattle.images.proofs.take_map.Goals as goal

pub put_images-requires : goal.put_images-requires
put_images-requires c = good_bits c.args.map.now.table.now c.in_ok-only_bits.ensures

pub returns-then-all_apart : goal.returns-then-all_apart
returns-then-all_apart c =
    let map = c.args.map.now in
    let table : length map.table.now ≤ first_bad_bit map.table.now = c.in_ok-only_bits.ensures in
    let row : length map.row.now ≤ first_bad_bit map.row.now = c.in_ok-only_bits-2.ensures in
    taken map.m map.table.now map.row.now _ _ _ (shifted map.m map.mapped.small) table row c.put_images.ensures c.put_places.ensures
    (sym c.if-all_apart.true ∙ c.all_apart.ensures)

pub returns-else-all_apart : goal.returns-else-all_apart
returns-else-all_apart c =
    let map = c.args.map.now in
    let table : length map.table.now ≤ first_bad_bit map.table.now = c.in_ok-only_bits.ensures in
    let row : length map.row.now ≤ first_bad_bit map.row.now = c.in_ok-only_bits-2.ensures in
    not_apart_taken map.m map.table.now map.row.now _ c.put_places.new.places _ (shifted map.m map.mapped.small) table row c.put_images.ensures
    (sym c.if-all_apart.false ∙ c.all_apart.ensures)
