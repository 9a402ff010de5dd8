-- `index::locate` meets its contract: the header of the record that starts there, its packed part's place and length, or why there is none.
use Rattle.std.specs.Prelude.{◌≡◌, ◌+◌, ◌<◌, length, drop, List, ℕ, Result, Ok}
use Rattle.code.specs.declared.Code.{Code}
use Rattle.code.specs.declared.Refusal.{Refusal}
use Rattle.std.proofs.Common.{ap, sym, ◌∙◌, arith}
use Rattle.numbers.specs.Lent.{lent_from}
use Rattle.record.specs.Reader.{header_of, part_by, outcome_of}
use Rattle.record.specs.ReaderLaws.{framed_record, length_part}
use Rattle.record.specs.OnlyHeader.{header_only}
use Rattle.index.specs.Finding.{part_after, located_by, located_at}
use Rattle.index.proofs.FindingLaws.{start_inside}
use Rattle.index.proofs.locate.Goals as goal
use Rattle.index.proofs.locate.Goals.{In_ok-at, In_ok-code}

-- the record starts inside the capture
inside : (c : In_ok-at) → c.in_ok-at.at < length c.args.capture.now
inside c = start_inside _ c.args.table.now c.args.w _ (sym c.start_of.ensures ∙ c.in_ok-at.was)

pub slice_bounds-header_of-count : goal.slice_bounds-header_of-count
slice_bounds-header_of-count c = omega (arith, inside c)

pub slice_bounds-header_of-start : goal.slice_bounds-header_of-start
slice_bounds-header_of-start c = omega (arith, inside c)

-- so its code is that of the bytes from there on
header : (c : In_ok-code) → header_of (drop c.in_ok-at.at c.args.capture.now) ≡ Ok c.in_ok-code.code
header c =
    let at = c.in_ok-at.at in
    let s = c.args.capture.now in
    sym (header_only _ _ (c.header_of.ensures ∙ ap (λ (x : List ℕ). outcome_of (header_of x)) (lent_from at s))) ∙ c.in_ok-code.was

pub overflow_add-result : goal.overflow_add-result
overflow_add-result c = omega (arith, inside ((goal.at.overflow_add-result c).In_ok-at))

pub part_length-requires : goal.part_length-requires
part_length-requires c = (framed_record _ _ (header c)).sound

pub returns : goal.returns
returns c =
    let own = (goal.at.returns c).In_ok-code in
    let s = c.args.capture.now in
    let at = c.in_ok-at.at in
    let rest = drop at s in
    let framed = framed_record rest _ (header own) in
    let long = c.part_length.ensures ∙ sym (length_part c.in_ok-code.code rest framed.whole) in
    ap (λ (k : ℕ). Ok (record { code = c.in_ok-code.code; start = at + 1; length = k })) long
    ∙ ap (λ (h : Result Code Refusal). located_by h (part_after h at) (length (part_by h rest))) (sym (header own))
    ∙ ap (located_at s) (sym c.in_ok-at.was ∙ c.start_of.ensures)
