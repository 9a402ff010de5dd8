-- `program::Record::search_into` meets its contract: the answer says what becomes of the record.
use Rattle.std.proofs.Common.{◌≡◌, sym, ◌∙◌, subst, arith}
use Rattle.std.proofs.Math.Path.{ap}
use Rattle.record.specs.ReaderLaws.{framed_record}
use Rattle.std.specs.Prelude as std
use Rattle.code.specs.declared.Refusal.{Refusal}
use Rattle.search.specs.declared.Found.{Found}
use Rattle.search.specs.RunnerUp.{RunnerUpOutcome}
use Rattle.program.specs.Program.{Result, answered, result_of}
use Rattle.program.specs.Step.{Stepped}
use Rattle.program.specs.StepLaws.{result_in, searched_result, found_bits}
use Rattle.program.proofs.Record.search_into.Goals as goal
use Rattle.program.proofs.Record.search_into.Goals.{After-search_framed-answer, In-Ok}

pub search_framed-answer-requires : goal.search_framed-answer-requires
search_framed-answer-requires c =
    let f = framed_record _ c.args.code c.requires.s_value.0 in
    (f.sound, f.whole)

-- what the answer says
says : (r : After-search_framed-answer)
    → result_in r.search_framed-answer.result.result r.search_framed-answer.new.bits ≡ result_of r.args.self.now.bytes.now
says r =
    let v = r.requires.s_value in
    searched_result _ r.args.code r.search_framed-answer.new.bits r.search_framed-answer.new.word r.args.bits.now r.args.word.now
    v.0 v.1 v.2 r.search_framed-answer.result.result (ap (λ (o : RunnerUpOutcome). o.outcome) r.search_framed-answer.ensures)

-- and if it is an answer
found : (c : In-Ok) → answered c.search_framed-answer.new.bits c.in-Ok.found.penalty c.in-Ok.found.gap c.in-Ok.found.visits
    ≡ result_of c.args.self.now.bytes.now
found c =
    let v = c.requires.s_value in
    let bits = c.search_framed-answer.new.bits in
    ap (λ (a : std.Result Found Refusal). result_in a bits) (sym c.in-Ok.is)
    ∙ searched_result _ c.args.code bits c.search_framed-answer.new.word c.args.bits.now c.args.word.now
    v.0 v.1 v.2 c.search_framed-answer.result.result (ap (λ (o : RunnerUpOutcome). o.outcome) c.search_framed-answer.ensures)

pub report-requires : goal.report-requires
report-requires c =
    let k = (goal.at.report-requires c).In-Ok in
    let q = c.requires.room in
    (found_bits _ _ _ _ _ (found k), omega (arith, q.0, c.search_framed-answer.auto.bits), q.1)

pub returns-in-Ok : goal.returns-in-Ok
returns-in-Ok c =
    let k = (goal.at.returns-in-Ok c).In-Ok in
    let g = c.args in
    let t = c.report in
    subst (λ (x : Result). Stepped g.self.now.w g.self.now.bytes.now x g.text.now t.result t.new.text) (found k) t.ensures

pub returns-in-Err : goal.returns-in-Err
returns-in-Err c =
    let r = (goal.at.returns-in-Err c).After-search_framed-answer in
    let g = c.args in
    let t = c.refuse in
    let is = ap (λ (a : std.Result Found Refusal). result_in a r.search_framed-answer.new.bits) (sym c.in-Err.is) ∙ says r in
    subst (λ (x : Result). Stepped g.self.now.w g.self.now.bytes.now x g.text.now t.result t.new.text) is t.ensures
