-- `index::make` meets its contract: all records are counted first, then the room is tested, then the entries are written.
use Rattle.std.specs.Prelude.{ℕ, Ok}
use Rattle.std.proofs.Common.{ap, ◌∙◌, arith}
use Rattle.index.specs.Making.{index_of, outcome_of, entered}
use Rattle.index.proofs.FrontingLaws.{found_refused, found_whole, found_used}
use Rattle.index.proofs.MakingLaws.{Whole, counted_whole, make_refused, make_short, make_room, make_done}
use Rattle.index.proofs.make.Goals as goal
use Rattle.index.proofs.make.Goals.{In_default}

pub returns-in-Some : goal.returns-in-Some
returns-in-Some c =
    let s = c.args.capture.now in
    make_refused s c.args.table.now _ (found_refused s _ c.whole-ended.ensures _ c.in-Some.is)

-- nothing but whole records
whole : (c : In_default) → Whole c.args.capture.now c.args.table.now c.whole-ended.result.index.records
whole c = counted_whole c.args.capture.now c.args.table.now _ (found_whole c.args.capture.now _ c.whole-ended.ensures c.in_default.is)

pub returns-then-table-entries_for : goal.returns-then-table-entries_for
returns-then-table-entries_for c =
    make_short c.args.capture.now c.args.table.now _ (whole ((goal.at.returns-then-table-entries_for c).In_default)) (omega (arith, c.entries_for.ensures))

pub put_entries-requires : goal.put_entries-requires
put_entries-requires c =
    make_room c.args.capture.now c.args.table.now _ (whole ((goal.at.put_entries-requires c).In_default)) (omega (arith, c.entries_for.ensures))

pub returns : goal.returns
returns c =
    let s = c.args.capture.now in
    let index = c.whole-ended.result.index in
    ap (outcome_of (Ok index)) c.put_entries.ensures
    ∙ ap (λ (used : ℕ). outcome_of (Ok (index_of index.records used)) (entered s c.args.table.now)) (found_used s _ c.whole-ended.ensures c.in_default.is)
    ∙ make_done s c.args.table.now _ (whole ((goal.at.returns c).In_default)) (omega (arith, c.entries_for.ensures))
