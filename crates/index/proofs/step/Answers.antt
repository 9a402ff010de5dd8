-- `index::step` meets its contract: each return is what the tests that led there show.
use Rattle.std.specs.Prelude.{◌≡◌, ℕ, ◌+◌, ◌<◌, Ok}
use Rattle.std.proofs.Common.{rules, ap, sym, ◌∙◌, arith}
use Rattle.index.specs.Steps.{bytes_at}
use Rattle.index.proofs.StepsLaws.{sized-none, sized-some, step_past, step_bad, step_torn, step_next}
use Rattle.index.proofs.step.Goals as goal
use Rattle.index.proofs.step.Goals.{In_ok-bytes}

pub returns-then-capture-at : goal.returns-then-capture-at
returns-then-capture-at c = sym (step_past c.args.capture.now c.args.at (omega arith))

pub returns-in_err-bytes : goal.returns-in_err-bytes
returns-in_err-bytes c =
    let none = sized-none _ _ (sym c.try_record_length.ensures ∙ c.in_err-bytes.was) in
    let e = step_bad c.args.capture.now c.args.at (omega arith) none.1 in
    let same = none.0 in
    search rules

-- how many bytes the record has
some : (c : In_ok-bytes) → (c.in_ok-bytes.bytes ≡ bytes_at c.args.capture.now c.args.at) × (0 < c.in_ok-bytes.bytes)
some c = sized-some _ _ (sym c.try_record_length.ensures ∙ c.in_ok-bytes.was)

pub returns-then-capture-at-2 : goal.returns-then-capture-at-2
returns-then-capture-at-2 c =
    let is = some ((goal.at.returns-then-capture-at-2 c).In_ok-bytes) in
    sym (step_torn c.args.capture.now c.args.at (omega arith) (λ z. omega (arith, is.0, is.1, z)) (omega (arith, is.0)))

pub returns : goal.returns
returns c =
    let is = some ((goal.at.returns c).In_ok-bytes) in
    ap (λ (k : ℕ). Ok (c.args.at + k)) is.0
    ∙ sym (step_next c.args.capture.now c.args.at (omega arith) (λ z. omega (arith, is.0, is.1, z)) (omega (arith, is.0)))
