-- `index::whole` meets its contract: the records passed and those that the run still has are all of its records.
use Rattle.std.specs.Prelude.{Ok}
use mathlib.Core.Path.{◌≡◌, refl, sym, ◌∙◌}
use mathlib.Core.List.{List}
use Prim.Native.Nat.{ℕ}
use native.Mathlib.Omega.{arith}
use Rattle.index.specs.Steps.{stepped}
use Rattle.index.specs.StepsLaws.{Goes}
use Rattle.index.proofs.StepsLaws.{step_goes}
use Rattle.index.proofs.FrontingLaws.{front_on, front-refused, front-end}
use Rattle.index.proofs.whole.Goals as goal
use Rattle.index.proofs.whole.Goals.{In-Ok}

pub loop-at-init : goal.loop-at-init
loop-at-init c = (omega arith, omega arith, refl)

pub returns-in-Err : goal.returns-in-Err
returns-in-Err c =
    let s = c.args.capture.now in
    let o = c.loop-at in
    sym (front-refused s o.records o.at _ (omega arith) (sym c.step.ensures ∙ c.in-Err.is))
    ∙ o.invariant.2

-- the step goes on
module _ (c : In-Ok) where
  abbrev s : List ℕ
  s = c.args.capture.now

  step_on : stepped s c.loop-at.at ≡ Ok c.in-Ok.next
  step_on = sym c.step.ensures ∙ c.in-Ok.is

  goes : Goes s c.loop-at.at c.in-Ok.next
  goes = step_goes s _ _ step_on

pub loop-at-smaller : goal.loop-at-smaller
loop-at-smaller c = omega (arith, (goes c).further, (goes c).there)

pub loop-at-preserved : goal.loop-at-preserved
loop-at-preserved c =
    let o = c.loop-at in
    let go = goes c in
    (go.there, omega (arith, go.further, o.invariant.1), sym (front_on (s c) o.records o.at _ go.inside (step_on c)) ∙ o.invariant.2)

pub returns : goal.returns
returns c =
    let s = c.args.capture.now in
    let o = c.loop-at in
    sym (front-end s o.records o.at (omega (arith, o.invariant.0))) ∙ o.invariant.2
