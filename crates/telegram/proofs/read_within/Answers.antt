-- `read_within`: what the search found is judged, what it refused is passed on.
use Rattle.std.proofs.Common.{rules, ap, sym, ◌∙◌}
use Rattle.search.specs.RunnerUp.{RunnerUpOutcome}
use Rattle.telegram.proofs.OutcomeLaws.{reading-refused, judged_bits, judged-reading}
use Rattle.telegram.proofs.read_within.Goals as goal

pub returns-in_err-found : goal.returns-in_err-found
returns-in_err-found c =
    let s = c.args in
    let e =
    sym
    (reading-refused s.allowed s.readings.now c.in_err-found.field-0.0 _ _
    (sym (rw c.in_err-found.was at (ap (λ (o : RunnerUpOutcome). o.outcome) c.search_within-answer.ensures)))) in
    search rules

pub judge-requires : goal.judge-requires
judge-requires c =
    let s = c.args in
    let f = c.in_ok-found.found in
    judged_bits s.allowed s.readings.now f.penalty f.gap f.visits _ _
    (rw c.in_ok-found.was at (ap (λ (o : RunnerUpOutcome). o.outcome) c.search_within-answer.ensures))

pub returns : goal.returns
returns c =
    let s = c.args in
    let f = c.in_ok-found.found in
    c.judge.ensures
    ∙ judged-reading s.allowed s.readings.now f.penalty f.gap f.visits _ _
    (rw c.in_ok-found.was at (ap (λ (o : RunnerUpOutcome). o.outcome) c.search_within-answer.ensures))
