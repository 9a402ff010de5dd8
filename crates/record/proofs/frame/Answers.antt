-- `record::frame` meets its contract: with no byte at all it is 8, else the first byte decides.
use Rattle.std.specs.Prelude.{◌≡◌, ◌/◌, ◌%◌, get_or, Ok}
use Rattle.std.proofs.Common.{rules, sym, ◌∙◌, arith}
use Rattle.code.specs.SoundLaws.{made_of, made_refused}
use Rattle.record.specs.Reader.{code_of}
use Rattle.record.specs.ReaderLaws.{frame_empty, frame_by}
use Rattle.record.proofs.frame.Goals as goal

pub returns-then-s-eq0 : goal.returns-then-s-eq0
returns-then-s-eq0 c = sym (frame_empty c.args.s.now c.if-s-eq0.true)

pub returns-in_err-code : goal.returns-in_err-code
returns-in_err-code c =
    let s = c.args.s.now in
    let e = frame_by s _ c.if-s-eq0.false (sym c.code_of.ensures ∙ c.in_err-code.was) in
    let same = made_refused _ _ _ (sym c.code_of.ensures ∙ c.in_err-code.was) in
    search rules

pub framed-requires : goal.framed-requires
framed-requires c =
    let first = get_or c.args.s.now 0 0 in
    ((made_of (first % 16) (first / 16) _ (sym c.code_of.ensures ∙ c.in_ok-code.was)).sound, omega arith)

pub returns : goal.returns
returns c =
    let s = c.args.s.now in
    let is : code_of (get_or s 0 0) ≡ Ok c.in_ok-code.code = sym c.code_of.ensures ∙ c.in_ok-code.was in
    c.framed.ensures ∙ sym (frame_by s _ c.if-s-eq0.false is)
