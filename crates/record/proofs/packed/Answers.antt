-- `record::packed` meets its contract: all bytes of the record after its first, or none.
use Rattle.std.specs.Prelude.{Result}
use mathlib.Core.Path.{◌∙◌, ap, sym}
use native.Mathlib.Omega.{arith}
use Rattle.record.specs.Reader.{part_by}
use Rattle.record.specs.ReaderLaws.{Framed, framed_record, part_taken, part_small}
use Rattle.record.proofs.packed.Goals as goal
use Rattle.record.proofs.packed.Goals.{In-Ok}
use Rattle.code.specs.declared.Code.{Code}
use Rattle.code.specs.declared.Refusal.{Refusal}

-- what the header shows about the bytes
headed : (c : In-Ok) → Framed c.args.s.now c.in-Ok.code
headed c =
    let s = c.args.s.now in
    framed_record s _ (sym c.frame.ensures ∙ c.in-Ok.is)

pub part_length-end-requires : goal.part_length-end-requires
part_length-end-requires c = (headed c).sound

pub overflow_add-end : goal.overflow_add-end
overflow_add-end c = omega (arith, part_small _ (headed ((goal.at.overflow_add-end c).In-Ok)).sound)

pub slice_bounds-result-end : goal.slice_bounds-result-end
slice_bounds-result-end c = omega (arith, (headed ((goal.at.slice_bounds-result-end c).In-Ok)).whole)

pub returns-in-Ok : goal.returns-in-Ok
returns-in-Ok c =
    let s = c.args.s.now in
    part_taken c.in-Ok.code s _ c.part_length-end.ensures
    ∙ ap (λ (h : Result Code Refusal). part_by h s) (sym (sym c.frame.ensures ∙ c.in-Ok.is))

pub returns-in-Err : goal.returns-in-Err
returns-in-Err c =
    let s = c.args.s.now in
    ap (λ (h : Result Code Refusal). part_by h s) (sym (sym c.frame.ensures ∙ c.in-Err.is))
