-- `record::write` meets its contract: the tests, and then the record in the part of the buffer that is lent for it.
use Rattle.std.specs.Prelude.{◌≡◌, ◌+◌, ◌-◌, ◌≤◌, length, Result}
use Rattle.std.proofs.Common.{rules, ap, ◌∙◌, sym, arith}
use borrow.Rule.Slice.PartMut.{mid_len}
use Rattle.code.specs.declared.Code.{Code}
use Rattle.code.specs.declared.Refusal.{Refusal}
use Rattle.packing.specs.Layout.{record_of}
use Rattle.packing.specs.LayoutLaws.{length_record}
use Rattle.record.specs.ReaderLaws.{part_small}
use Rattle.record.specs.Writing.{written_by, writing}
use Rattle.record.specs.WritingLaws.{Writable, allowed_writable, wrote}
use Rattle.record.proofs.write.Goals as goal
use Rattle.record.proofs.write.Goals.{In_ok-code, After-part_length}

pub returns-in_err-code : goal.returns-in_err-code
unfolding writing
returns-in_err-code c =
    let g = c.args in
    let e = ap (λ (a : Result Code Refusal). written_by a g.readings.now g.buffer.now g.place) (sym c.in_err-code.was ∙ c.writable.ensures) in
    search rules

-- none of the tests applies
fine : (c : In_ok-code) → let g = c.args in Writable g.r g.m g.readings.now (length g.buffer.now) g.place c.in_ok-code.code
fine c = allowed_writable _ _ _ _ _ _ (sym c.in_ok-code.was ∙ c.writable.ensures)

-- the record's bytes: as many as it has, and within the buffer
module _ (c : After-part_length) where
  still_fine : let g = c.args in Writable g.r g.m g.readings.now (length g.buffer.now) g.place c.in_ok-code.code
  still_fine = allowed_writable _ _ _ _ _ _ (sym c.in_ok-code.was ∙ c.writable.ensures)

  size : let code = c.in_ok-code.code in length (record_of code.r code.m c.args.readings.now) ≡ 1 + c.part_length.result
  size =
      let code = c.in_ok-code.code in
      omega (arith, length_record code.r code.m c.args.readings.now still_fine.long, c.part_length.ensures)

  within : let g = c.args in g.place + (1 + c.part_length.result) ≤ length g.buffer.now
  within = omega (arith, still_fine.room, c.part_length.ensures)

pub part_length-requires : goal.part_length-requires
part_length-requires c = (fine c).sound

pub overflow_add-end : goal.overflow_add-end
overflow_add-end c = omega (arith, part_small _ (fine ((goal.at.overflow_add-end c).In_ok-code)).sound)

pub overflow_add-end-2 : goal.overflow_add-end-2
overflow_add-end-2 c = omega (arith, within c)

pub slice_bounds-put_record-end : goal.slice_bounds-put_record-end
slice_bounds-put_record-end c = omega (arith, within c)

pub put_record-requires : goal.put_record-requires
put_record-requires c =
    let own = goal.at.put_record-requires c in
    let f = fine own.In_ok-code in
    let g = c.args in
    let k = 1 + c.part_length.result in
    let lent : (g.place + k) - g.place ≡ k = omega arith in
    (f.sound, f.within, mid_len g.place (g.place + k) g.buffer.now (within own.After-part_length) ∙ lent ∙ sym (size own.After-part_length))

pub returns : goal.returns
unfolding writing
returns c =
    let g = c.args in
    let put = c.put_record in
    wrote c.in_ok-code.code g.readings.now g.buffer.now put.new.bytes g.place (1 + c.part_length.result) put.ensures
    (ap length put.ensures ∙ size ((goal.at.returns c).After-part_length))
    ∙ ap (λ (a : Result Code Refusal). written_by a g.readings.now g.buffer.now g.place) (sym c.in_ok-code.was ∙ c.writable.ensures)
