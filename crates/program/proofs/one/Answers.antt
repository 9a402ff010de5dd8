-- `program::one` meets its contract: by the header's refusal, or by the search.
use Rattle.std.proofs.Common.{◌≡◌, sym, ◌∙◌, subst, Result}
use Rattle.code.specs.declared.Code.{Code}
use Rattle.code.specs.declared.Refusal.{Refusal}
use Rattle.record.specs.Reader.{header_of}
use Rattle.record.specs.OnlyHeader.{header_only}
use Rattle.program.specs.Program.{headed, result_of}
use Rattle.program.specs.Step.{Stepped}
use Rattle.program.proofs.one.Goals as goal

pub returns-in-Err : goal.returns-in-Err
unfolding result_of
returns-in-Err c =
    let g = c.args in
    let t = c.refuse in
    let is : header_of g.bytes.now ≡ _ = sym (header_only _ _ c.header_of.ensures) ∙ c.in-Err.is in
    subst (λ (x : Result Code Refusal). Stepped g.w g.bytes.now (headed x g.bytes.now) g.text.now t.result t.new.text) (sym is) t.ensures
