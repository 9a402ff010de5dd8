-- The quick reading is in the two lent rows; if it passes the test it is copied, otherwise the search answers.
use Rattle.std.specs.Prelude.{ℕ, Result}
use mathlib.Core.Path.{ap, sym, ◌∙◌}
use native.Mathlib.Omega.{arith}
use Rattle.search.specs.RunnerUp.{RunnerUpOutcome}
use Rattle.early.specs.Outcome.{outcome_of}
use Rattle.early.proofs.OutcomeLaws.{at_once, by_search}
use Rattle.early.proofs.test_first.Goals as goal
use Rattle.code.specs.declared.Refusal.{Refusal}

pub take_reading-penalty-requires : goal.take_reading-penalty-requires
take_reading-penalty-requires c =
    let a = c.requires.0 in
    record { sound = a.sound; long_bits = omega (arith, c.requires.1, a.long_bits); long_word = omega (arith, c.requires.2, a.long_word); entries = a.entries }

-- the places that the returns look back to, each after the next

pub returns-then-surely_right : goal.returns-then-surely_right
returns-then-surely_right c =
    let quick = c.take_reading-penalty in
    let s = c.args in
    at_once s.code s.allowed s.readings.now s.bits.now s.word.now quick.result quick.new.bits quick.new.word
    quick.ensures (sym c.surely_right.ensures ∙ c.if-surely_right.true) c.copy.new.to c.copy-then-surely_right.new.to
    c.copy.ensures c.copy-then-surely_right.ensures

pub returns : goal.returns
returns c =
    let quick = c.take_reading-penalty in
    let s = c.args in
    let searched = c.search_sound-answer in
    let bits = searched.new.bits in
    let word = searched.new.word in
    ap (λ (a : Result ℕ Refusal). outcome_of a bits word) c.penalty_only.ensures
    ∙ by_search s.code s.allowed s.readings.now s.bits.now s.word.now quick.result quick.new.bits quick.new.word
    quick.ensures (sym c.surely_right.ensures ∙ c.if-surely_right.false) searched.result.result bits word
    (ap (λ (o : RunnerUpOutcome). o.outcome) searched.ensures)
