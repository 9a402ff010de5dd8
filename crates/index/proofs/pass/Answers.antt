-- `index::pass` meets its contract: the remaining steps lead to the same place.
use Rattle.std.proofs.Common.{◌≡◌, ℕ, ◌+◌, ◌-◌, rules, ap, sym, ◌∙◌, arith}
use Rattle.index.specs.Steps.{passed}
use Rattle.index.proofs.StepsLaws.{passed_on_lem, passed-refused, passed_none}
use Rattle.index.proofs.pass.Goals as goal

pub loop-init : goal.loop-init
loop-init c =
    let all : c.args.count - 0 ≡ c.args.count = omega arith in
    ap (λ (left : ℕ). passed c.args.capture.now left c.args.start) all

pub returns-in_err-at : goal.returns-in_err-at
returns-in_err-at c =
    let o = c.loop in
    let e = passed-refused c.args.capture.now (c.args.count - o.counter) o.at _ (omega arith) (sym c.step.ensures ∙ c.in_err-at.was) in
    search rules

pub loop-preserved : goal.loop-preserved
loop-preserved c =
    let s = c.args.capture.now in
    let o = c.loop in
    let left : c.args.count - (o.counter + 1) ≡ (c.args.count - o.counter) - 1 = omega arith in
    rw left (sym (passed_on_lem s (c.args.count - o.counter) o.at _ (omega arith) (sym c.step.ensures ∙ c.in_ok-at.was)) ∙ o.invariant)

pub returns : goal.returns
returns c =
    let o = c.loop in
    sym (passed_none c.args.capture.now (c.args.count - o.counter) o.at (omega arith)) ∙ o.invariant
