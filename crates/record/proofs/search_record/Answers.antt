-- `record::search_record` meets its contract: the header decides, then the search.
use Rattle.std.specs.Prelude.{Result}
use mathlib.Core.Path.{◌∙◌, ap, sym}
use mathlib.Core.List.{[]}
use Rattle.search.specs.declared.WithRunnerUp.{WithRunnerUp}
use Rattle.search.specs.RunnerUp.{runner_up_outcome_of}
use Rattle.search.proofs.RunnerUpLaws.{none-shown}
use Rattle.record.specs.Searching.{searching_with_runner_up_by, searching_record}
use Rattle.record.specs.ReaderLaws.{framed_record}
use Rattle.record.proofs.search_record.Goals as goal
use Rattle.code.specs.declared.Code.{Code}
use Rattle.code.specs.declared.Refusal.{Refusal}

pub search_framed-requires : goal.search_framed-requires
search_framed-requires c =
    let s = c.args.s.now in
    let f = framed_record s _ (sym c.frame.ensures ∙ c.in-Ok.is) in
    (f.sound, f.whole)

pub returns-in-Ok : goal.returns-in-Ok
unfolding searching_record
returns-in-Ok c =
    let f = c in
    let g = f.args in
    c.search_framed.ensures
    ∙ ap (λ (h : Result Code Refusal). searching_with_runner_up_by h g.allowed g.s.now g.bits.now g.word.now)
    (sym (sym f.frame.ensures ∙ c.in-Ok.is))

pub returns-in-Err : goal.returns-in-Err
unfolding searching_record
returns-in-Err c =
    let known = c in
    let g = known.args in
    ap (λ (a : WithRunnerUp). runner_up_outcome_of a g.bits.now g.word.now) c.refused.ensures
    ∙ sym (none-shown [] known.in-Err.why g.bits.now g.word.now)
    ∙ ap (λ (h : Result Code Refusal). searching_with_runner_up_by h g.allowed g.s.now g.bits.now g.word.now)
    (sym (sym known.frame.ensures ∙ known.in-Err.is))
