-- Where there is one, the loop's invariant is `Passed`: no index passed is frozen and 1.
use Rattle.bit_rows.specs.FillLaws.{pass, found}
use Rattle.bit_rows.proofs.first_frozen_one.Goals as goal
use Rattle.bit_rows.proofs.first_frozen_one.Goals.{else-kind-eq0-via-then-kind-eq0+else-row-i-ne0, else-kind-eq0-via-else-kind-eq0}

pub returns-then-row-i-ne0 : goal.returns-then-row-i-ne0
returns-then-row-i-ne0 c = found _ _ _ c.requires c.loop-i.invariant c.loop-i-test.true c.if-kind-eq0.true c.if-row-i-ne0.true

pub loop-i-preserved : goal.loop-i-preserved
loop-i-preserved c =
    let next = pass _ _ _ c.requires c.loop-i.invariant c.loop-i-test.true in
    elim c.else-kind-eq0.branch [
      | else-kind-eq0-via-then-kind-eq0+else-row-i-ne0 w ↦ next (λ z. w.if-row-i-ne0.false)
      | else-kind-eq0-via-else-kind-eq0 w ↦ next (λ z. absurd (w.if-kind-eq0.false z))
    ]
