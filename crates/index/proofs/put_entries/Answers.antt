-- `index::put_entries` meets its contract: the loop's invariant is `Entering`.
use Rattle.std.proofs.Common.{sym, ◌∙◌, arith}
use Rattle.index.specs.StepsLaws.{Goes}
use Rattle.index.proofs.StepsLaws.{step_goes}
use Rattle.index.proofs.MakingLaws.{enter_first, entry-room, enter_stopped, enter_next, enter_done}
use Rattle.index.proofs.put_entries.Goals as goal
use Rattle.index.proofs.put_entries.Goals.{In-Ok}

pub loop-next-init : goal.loop-next-init
loop-next-init c = enter_first c.args.capture.now c.args.table.now c.requires

-- the record that starts there
goes : (c : In-Ok) → Goes c.args.capture.now c.loop-next.at c.in-Ok.next
goes c = step_goes _ _ _ (sym c.step.ensures ∙ c.in-Ok.is)

pub put_entry-requires : goal.put_entry-requires
put_entry-requires c =
    let o = c.loop-next in
    entry-room c.args.capture.now c.args.table.now o.table o.at o.w o.invariant (goes ((goal.at.put_entry-requires c).In-Ok)).inside

pub loop-next-smaller : goal.loop-next-smaller
loop-next-smaller c =
    let go = goes ((goal.at.loop-next-smaller c).In-Ok) in
    omega (arith, go.further, go.there)

pub overflow_add-w : goal.overflow_add-w
overflow_add-w c =
    let go = goes ((goal.at.overflow_add-w c).In-Ok) in
    omega (arith, c.loop-next.invariant.few, go.inside)

pub loop-next-preserved : goal.loop-next-preserved
loop-next-preserved c =
    let o = c.loop-next in
    let put = c.put_entry in
    enter_next c.args.capture.now c.args.table.now o.table o.at o.w o.invariant c.in-Ok.next _
    (sym c.step.ensures ∙ c.in-Ok.is) put.ensures put.auto.table

pub returns : goal.returns
returns c =
    let o = c.loop-next in
    let past = enter_stopped c.args.capture.now c.args.table.now o.table o.at o.w o.invariant (λ next e. c.in_default.not-Ok next (c.step.ensures ∙ e)) in
    enter_done c.args.capture.now c.args.table.now o.table o.at o.w o.invariant past
