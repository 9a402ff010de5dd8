-- `write`: the length, then the writer's tests.
use Rattle.std.specs.Prelude.{Result}
use Rattle.std.proofs.Common.{rules, ap, sym, ◌∙◌}
use Rattle.guarded.specs.declared.Fault.{Fault}
use Rattle.guarded.specs.Written.{done, refused}
use Rattle.telegram.specs.Outcome.{written_if}
use Rattle.telegram.proofs.OutcomeLaws.{given, writing_short, writing-tested}
use Rattle.telegram.proofs.write.Goals as goal

pub returns-then-word-ne-LENGTH : goal.returns-then-word-ne-LENGTH
returns-then-word-ne-LENGTH c =
    let s = c.args in
    ap (λ (why : Fault). refused why s.word.now) c.into.ensures
    ∙ sym (writing_short s.cylinder s.direction s.tilt s.word.now c.if-word-ne-LENGTH.true)

pub returns-in_err-writer_fault : goal.returns-in_err-writer_fault
returns-in_err-writer_fault c =
    let s = c.args in
    let t = given s.cylinder s.direction s.tilt s.word.now in
    let bad = sym c.writer_fault.ensures ∙ c.in_err-writer_fault.was in
    let e =
    sym
    (writing-tested s.cylinder s.direction s.tilt s.word.now c.if-word-ne-LENGTH.false
    ∙ ap (λ (x : Result (Unit {0}) Fault). written_if x t s.word.now) bad) in
    search rules

pub returns : goal.returns
returns c =
    let s = c.args in
    let t = given s.cylinder s.direction s.tilt s.word.now in
    let good = sym c.writer_fault.ensures ∙ c.in_ok-writer_fault.was in
    ap done c.put_word.ensures
    ∙ sym
    (writing-tested s.cylinder s.direction s.tilt s.word.now c.if-word-ne-LENGTH.false
    ∙ ap (λ (x : Result (Unit {0}) Fault). written_if x t s.word.now) good)
