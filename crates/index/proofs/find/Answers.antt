-- `index::find` meets its contract: the packed part of the record that starts there, or none.
use mathlib.Core.Path.{ap, sym, ◌∙◌}
use mathlib.Core.List.{List}
use Prim.Native.Nat.{ℕ, ◌<◌}
use native.Mathlib.Omega.{arith}
use lib.ListN.{length}
use Rattle.numbers.specs.Lent.{lent_from}
use Rattle.record.specs.Reader.{header_of, part_by}
use Rattle.index.specs.Finding.{part_at}
use Rattle.index.proofs.FindingLaws.{start_inside}
use Rattle.index.proofs.find.Goals as goal
use Rattle.index.proofs.find.Goals.{In-Ok}

-- the record starts inside the capture
inside : (c : In-Ok) → c.in-Ok.start < length c.args.capture.now
inside c =
    let g = c.args in
    start_inside g.capture.now g.table.now g.w _ (sym c.start_of.ensures ∙ c.in-Ok.is)

pub slice_bounds-packed-count : goal.slice_bounds-packed-count
slice_bounds-packed-count c = omega (arith, inside c)

pub slice_bounds-packed-start : goal.slice_bounds-packed-start
slice_bounds-packed-start c = omega (arith, inside c)

pub returns-in-Ok : goal.returns-in-Ok
returns-in-Ok c =
    let s = c.args.capture.now in
    c.packed.ensures
    ∙ ap (λ (x : List ℕ). part_by (header_of x) x) (lent_from c.in-Ok.start s)
    ∙ ap (part_at s) (sym c.in-Ok.is ∙ c.start_of.ensures)

pub returns-in-Err : goal.returns-in-Err
returns-in-Err c =
    let s = c.args.capture.now in
    ap (part_at s) (sym c.in-Err.is ∙ c.start_of.ensures)
