-- `index::front` meets its contract: the front is found first, then the room is tested, then the entries of its part are written.
use Rattle.std.specs.Prelude.{Ok}
use mathlib.Core.Path.{ap, sym, ◌∙◌}
use native.Mathlib.Omega.{arith}
use Rattle.index.specs.Fronting.{front_outcome_of}
use Rattle.index.proofs.FrontingLaws.{front-part, front_short, front-room, front-done}
use Rattle.index.proofs.front.Goals as goal

pub returns-then-table-entries_for : goal.returns-then-table-entries_for
returns-then-table-entries_for c =
    let g = c.args in
    front_short g.capture.now g.table.now _ c.whole-front.ensures (omega (arith, c.entries_for.ensures))

pub slice_bounds-put_entries-end : goal.slice_bounds-put_entries-end
slice_bounds-put_entries-end c =
    let g = c.args in
    sym (front-part g.capture.now g.table.now _ c.whole-front.ensures)

pub put_entries-requires : goal.put_entries-requires
put_entries-requires c =
    let g = c.args in
    front-room g.capture.now g.table.now _ c.whole-front.ensures
    (omega (arith, c.entries_for.ensures))

pub returns : goal.returns
returns c =
    let g = c.args in
    let found = c.whole-front in
    ap (front_outcome_of (Ok found.result)) c.put_entries.ensures
    ∙ front-done g.capture.now g.table.now _ found.ensures (omega (arith, c.entries_for.ensures))
