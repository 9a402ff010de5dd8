-- `index::append` meets its contract: with no room for its entry a record is refused; else the record and its entry are written.
use Rattle.std.specs.Prelude.{ℕ, Result}
use Rattle.std.proofs.Common.{rules, ap, sym, ◌∙◌, arith}
use Rattle.code.specs.declared.Refusal.{Refusal}
use Rattle.record.specs.Writing.{outcome_of}
use Rattle.index.specs.declared.Index.{Index}
use Rattle.index.specs.Appending.{append_outcome_of, not_appended}
use Rattle.index.proofs.AppendingLaws.{few_records, free_room, append-none, append-stopped, append-wrote}
use Rattle.index.proofs.append.Goals as goal

pub returns-then-full : goal.returns-then-full
returns-then-full c =
    let g = c.args in
    ap (λ (a : Result Index Refusal). append_outcome_of a g.capture.now g.table.now) (c.not_appended.ensures ∙ ap not_appended c.writable.ensures)
    ∙ append-none g.index g.r g.m g.readings.now g.capture.now g.table.now (sym c.full.ensures ∙ c.if-full.true)

pub returns-in_err-next : goal.returns-in_err-next
returns-in_err-next c =
    let g = c.args in
    let left = c.write.new.buffer in
    let e = append-stopped g.index g.r g.m g.readings.now g.capture.now g.table.now _ left
    (ap (λ (a : Result ℕ Refusal). outcome_of a left) (sym c.in_err-next.was) ∙ c.write.ensures) in
    search rules

pub put_entry-requires : goal.put_entry-requires
put_entry-requires c = free_room c.args.index _ (sym c.full.ensures ∙ c.if-full.false)

pub overflow_add-result : goal.overflow_add-result
overflow_add-result c = omega (arith, few_records c.args.index _ (sym c.full.ensures ∙ c.if-full.false))

pub returns : goal.returns
returns c =
    let g = c.args in
    let left = c.write.new.buffer in
    append-wrote g.index g.r g.m g.readings.now g.capture.now g.table.now c.in_ok-next.next left c.put_entry.new.table
    (sym c.full.ensures ∙ c.if-full.false) c.put_entry.ensures
    (ap (λ (a : Result ℕ Refusal). outcome_of a left) (sym c.in_ok-next.was) ∙ c.write.ensures)
