-- The walk's two steps, which call each other in turn, meet their contracts.
use Rattle.std.proofs.Common.{◌≡◌, refl, ℕ, ◌+◌, ◌-◌, ◌^◌, ◌<◌, List, Bool, true, false, not, set, take, ap, ap₂, sym, ◌∙◌, arith, ℤ, to_z, of_z}
use Rattle.std.proofs.Common.{to_z-of_z, w32}
use Rattle.std.proofs.lemmas.Bool.{eqb-true}
use Rattle.decoding.specs.Readings.{loss}
use Rattle.decoding.specs.Quick.{hard}
use Rattle.decoding.specs.Walk.{value}
use Rattle.decoding.specs.PathLaws.{hard_bit}
use Rattle.walk.specs.declared.progress.Progress.{Progress}
use Rattle.walk.specs.Progress.{front, drops, allows_more, with_count}
use Rattle.walk.specs.StepLaws.{value_small, sum_small}
use Rattle.walk.specs.GoingLaws.{may_visit, may_not, not_full, full_step, frozen_stop, info_stop}
use Rattle.walk.specs.GoingLaws.{value-is, value_going, reached_given, frozen_dropped, reached_more}
use Rattle.walk.specs.GoingLaws.{deeper_m, deeper_asked, deeper_given, deeper_kept, first_adds, first_undropped}
use Rattle.walk.specs.GoingLaws.{second_stop, second_going, second-dropped, second-given}
use Rattle.walk.specs.FrozenBlockLaws.{zeros_asked, zeros-left, zeros_reached, zeros-low, same_given, same_reached}
use Rattle.walk.specs.InformationTestLaws.{block-length}
use Rattle.walk.proofs.DepthLaws.{information_call, frozen_call}
use Rattle.walk.specs.InformationBlockLaws.{hard_m, behind_asked, behind_given, behind_out}
use Rattle.walk.proofs.+frozen_step_info_step.Goals as goal
use Rattle.walk.proofs.+frozen_step_info_step.Goals.{frozen_step-then-starts_block+else-block-ne0, frozen_step-else-starts_block}

-- ---- the frozen step
pub frozen_step-info_step-requires : goal.frozen_step-info_step-requires
frozen_step-info_step-requires t c =
    let r = c.loop-rows.invariant in
    let inside = not_full r.asked (sym c.full.ensures ∙ c.loop-rows-test.true) in
    let same = ap (λ (n : ℕ). 2 ^ n) r.onward.same_m in
    (omega (arith, c.decreases, frozen_call c.args.kinds.now same c.args.from _ r.onward.on), (r.asked, inside, c.if-kinds-i-ne0.true))

pub frozen_step-returns-then-kinds-i-ne0 : goal.frozen_step-returns-then-kinds-i-ne0
frozen_step-returns-then-kinds-i-ne0 t c =
    reached_given c.loop-rows.invariant c.info_step.ensures

pub frozen_step-returns-then-not-visit : goal.frozen_step-returns-then-not-visit
frozen_step-returns-then-not-visit t c =
    let r = c.loop-rows.invariant in
    let inside = not_full r.asked (sym c.full.ensures ∙ c.loop-rows-test.true) in
    reached_given r (frozen_stop r.asked inside c.if-kinds-i-ne0.false (may_not (ap not c.if-not-visit.true) c.visit.ensures))

-- the start of a block: its frozen indices are taken at once, or nothing changes
pub frozen_step-zeros-block-requires : goal.frozen_step-zeros-block-requires
frozen_step-zeros-block-requires t c =
    let r = c.loop-rows.invariant in
    let inside = not_full r.asked (sym c.full.ensures ∙ c.loop-rows-test.true) in
    let visited = may_visit (ap not c.if-not-visit.false) c.visit.ensures in
    zeros_asked r inside visited c.value_at-value.ensures (sym c.starts_block.ensures ∙ c.if-starts_block.true)

pub frozen_step-overflow_add-sum : goal.frozen_step-overflow_add-sum
frozen_step-overflow_add-sum t c =
    let r = c.loop-rows.invariant in
    let inside = not_full r.asked (sym c.full.ensures ∙ c.loop-rows-test.true) in
    let visited = may_visit (ap not c.if-not-visit.false) c.visit.ensures in
    let given = c.value_at-value.ensures in
    let kind = c.if-kinds-i-ne0.false in
    let starts = sym c.starts_block.ensures ∙ c.if-starts_block.true in
    record { fits = zeros-low r inside visited given starts c.zeros-block.ensures c.if-block-ne0.true }

pub frozen_step-loop-rows-preserved-then-block-ne0 : goal.frozen_step-loop-rows-preserved-then-block-ne0
frozen_step-loop-rows-preserved-then-block-ne0 t c =
    let r = c.loop-rows.invariant in
    let inside = not_full r.asked (sym c.full.ensures ∙ c.loop-rows-test.true) in
    let visited = may_visit (ap not c.if-not-visit.false) c.visit.ensures in
    let given = c.value_at-value.ensures in
    let kind = c.if-kinds-i-ne0.false in
    let starts = sym c.starts_block.ensures ∙ c.if-starts_block.true in
    let taken = c.zeros-block.ensures in
    zeros_reached r inside visited given starts taken c.if-block-ne0.true

-- one index
pub frozen_step-loss-sum-requires : goal.frozen_step-loss-sum-requires
frozen_step-loss-sum-requires t c =
    let r = c.loop-rows.invariant in
    let inside = not_full r.asked (sym c.full.ensures ∙ c.loop-rows-test.true) in
    let visited = may_visit (ap not c.if-not-visit.false) c.visit.ensures in
    let given = c.value_at-value.ensures in
    let kind = c.if-kinds-i-ne0.false in
    let at : ℤ = value c.loop-rows.state.count.m (front c.loop-rows.state.count c.args.readings.now) (take c.loop-rows.i c.loop-rows.path) in
    let is : to_z w32 (of_z w32 c.value_at-value.result) ≡ at = to_z-of_z {w = w32} (record { sfits = c.value_at-value.type_inv })
    ∙ value-is r.asked inside visited given in
    rw is (value_small r.asked.ready)

pub frozen_step-overflow_add-sum-in-loop-rows : goal.frozen_step-overflow_add-sum-in-loop-rows
frozen_step-overflow_add-sum-in-loop-rows t c =
    let r = c.loop-rows.invariant in
    let inside = not_full r.asked (sym c.full.ensures ∙ c.loop-rows-test.true) in
    let visited = may_visit (ap not c.if-not-visit.false) c.visit.ensures in
    let given = c.value_at-value.ensures in
    let kind = c.if-kinds-i-ne0.false in
    let at : ℤ = value c.loop-rows.state.count.m (front c.loop-rows.state.count c.args.readings.now) (take c.loop-rows.i c.loop-rows.path) in
    let is : to_z w32 (of_z w32 c.value_at-value.result) ≡ at = to_z-of_z {w = w32} (record { sfits = c.value_at-value.type_inv })
    ∙ value-is r.asked inside visited given in
    let adds : c.loop-rows.sum + c.loss-sum.result ≡ c.loop-rows.sum + loss at 0 =
    ap (λ (n : ℕ). c.loop-rows.sum + n) (c.loss-sum.ensures ∙ ap (λ (v : ℤ). loss v 0) is) in
    record { fits = omega (arith, adds, sum_small r.asked.ready 0 inside (omega arith)) }

pub frozen_step-returns-then-dropped : goal.frozen_step-returns-then-dropped
frozen_step-returns-then-dropped t c =
    let r = c.loop-rows.invariant in
    let inside = not_full r.asked (sym c.full.ensures ∙ c.loop-rows-test.true) in
    let visited = may_visit (ap not c.if-not-visit.false) c.visit.ensures in
    let given = c.value_at-value.ensures in
    let kind = c.if-kinds-i-ne0.false in
    let at : ℤ = value c.loop-rows.state.count.m (front c.loop-rows.state.count c.args.readings.now) (take c.loop-rows.i c.loop-rows.path) in
    let is : to_z w32 (of_z w32 c.value_at-value.result) ≡ at = to_z-of_z {w = w32} (record { sfits = c.value_at-value.type_inv })
    ∙ value-is r.asked inside visited given in
    let adds : c.loop-rows.sum + c.loss-sum.result ≡ c.loop-rows.sum + loss at 0 =
    ap (λ (n : ℕ). c.loop-rows.sum + n) (c.loss-sum.ensures ∙ ap (λ (v : ℤ). loss v 0) is) in
    let going = value_going r.asked inside visited given in
    let untaken : (c.if-starts_block.path ≡ c.loop-rows.path) × (c.if-starts_block.state ≡ with_count c.loop-rows.state c.value_at-value.new.count) =
    elim c.if-starts_block.branch [
      | frozen_step-then-starts_block+else-block-ne0 w ↦ let z = zeros-left r inside visited given
          (sym c.starts_block.ensures ∙ w.if-starts_block.true) w.zeros-block.ensures w.if-block-ne0.false in
          (w.path-is ∙ z.0, w.state-is ∙ z.1)
      | frozen_step-else-starts_block w ↦ (w.path-is, w.state-is)
    ] in
    let drop_test = λ (b : Bool) (d : drops c.if-starts_block.state (c.loop-rows.sum + c.loss-sum.result) ≡ b).
    ap (λ (w : Progress). drops w (c.loop-rows.sum + c.loss-sum.result)) (sym untaken.1) ∙ d in
    same_given untaken.0 untaken.1 (frozen_dropped r inside kind going adds (drop_test true (sym c.dropped.ensures ∙ c.if-dropped.true)))

pub frozen_step-loop-rows-preserved : goal.frozen_step-loop-rows-preserved
frozen_step-loop-rows-preserved t c =
    let r = c.loop-rows.invariant in
    let inside = not_full r.asked (sym c.full.ensures ∙ c.loop-rows-test.true) in
    let visited = may_visit (ap not c.if-not-visit.false) c.visit.ensures in
    let given = c.value_at-value.ensures in
    let kind = c.if-kinds-i-ne0.false in
    let at : ℤ = value c.loop-rows.state.count.m (front c.loop-rows.state.count c.args.readings.now) (take c.loop-rows.i c.loop-rows.path) in
    let is : to_z w32 (of_z w32 c.value_at-value.result) ≡ at = to_z-of_z {w = w32} (record { sfits = c.value_at-value.type_inv })
    ∙ value-is r.asked inside visited given in
    let adds : c.loop-rows.sum + c.loss-sum.result ≡ c.loop-rows.sum + loss at 0 =
    ap (λ (n : ℕ). c.loop-rows.sum + n) (c.loss-sum.ensures ∙ ap (λ (v : ℤ). loss v 0) is) in
    let going = value_going r.asked inside visited given in
    let untaken : (c.if-starts_block.path ≡ c.loop-rows.path) × (c.if-starts_block.state ≡ with_count c.loop-rows.state c.value_at-value.new.count) =
    elim c.if-starts_block.branch [
      | frozen_step-then-starts_block+else-block-ne0 w ↦ let z = zeros-left r inside visited given
          (sym c.starts_block.ensures ∙ w.if-starts_block.true) w.zeros-block.ensures w.if-block-ne0.false in
          (w.path-is ∙ z.0, w.state-is ∙ z.1)
      | frozen_step-else-starts_block w ↦ (w.path-is, w.state-is)
    ] in
    let drop_test = λ (b : Bool) (d : drops c.if-starts_block.state (c.loop-rows.sum + c.loss-sum.result) ≡ b).
    ap (λ (w : Progress). drops w (c.loop-rows.sum + c.loss-sum.result)) (sym untaken.1) ∙ d in
    same_reached untaken.1
    (reached_more r inside kind going adds (drop_test false (sym c.dropped.ensures ∙ c.if-dropped.false))
    (c.put.ensures ∙ ap (λ (x : List ℕ). set x c.loop-rows.i 0) untaken.0))

pub frozen_step-returns : goal.frozen_step-returns
frozen_step-returns t c =
    let r = c.loop-rows.invariant in
    let full = eqb-true c.loop-rows.i (2 ^ c.loop-rows.state.count.m) (sym c.full.ensures ∙ c.loop-rows-test.false) in
    reached_given r (full_step r.asked full c.finish.ensures)

-- ---- the information step
pub info_step-returns-then-not-visit : goal.info_step-returns-then-not-visit
info_step-returns-then-not-visit t c =
    let a = c.requires in
    info_stop a.0 a.1 a.2 (may_not (ap not c.if-not-visit.true) c.visit.ensures)

pub info_step-loss-requires : goal.info_step-loss-requires
info_step-loss-requires t c =
    let a = c.requires in
    let visited = may_visit (ap not c.if-not-visit.false) c.visit.ensures in
    let given = c.value_at-value.ensures in
    let at : ℤ = value c.args.state.now.count.m (front c.args.state.now.count c.args.readings.now) (take c.args.i c.args.path.now) in
    let is : to_z w32 (of_z w32 c.value_at-value.result) ≡ at = to_z-of_z {w = w32} (record { sfits = c.value_at-value.type_inv })
    ∙ value-is a.0 a.1 visited given in
    rw is (value_small a.0.ready)

pub info_step-overflow_add-after : goal.info_step-overflow_add-after
info_step-overflow_add-after t c =
    let a = c.requires in
    let visited = may_visit (ap not c.if-not-visit.false) c.visit.ensures in
    let given = c.value_at-value.ensures in
    let at : ℤ = value c.args.state.now.count.m (front c.args.state.now.count c.args.readings.now) (take c.args.i c.args.path.now) in
    let is : to_z w32 (of_z w32 c.value_at-value.result) ≡ at = to_z-of_z {w = w32} (record { sfits = c.value_at-value.type_inv })
    ∙ value-is a.0 a.1 visited given in
    let first : c.hard-first.result ≡ hard at = c.hard-first.ensures.0 ∙ ap hard is in
    let other : c.args.penalty + c.loss.result ≡ c.args.penalty + loss at (1 - hard at) =
    ap (λ (n : ℕ). c.args.penalty + n) (c.loss.ensures ∙ ap₂ (λ (v : ℤ) (b : ℕ). loss v (1 - b)) is first) in
    record { fits = omega (arith, other, sum_small a.0.ready (1 - hard at) a.1 (omega arith)) }

-- the other bit is dropped: the indices that are taken, and their visits
pub info_step-returns-then-not-visit_many : goal.info_step-returns-then-not-visit_many
info_step-returns-then-not-visit_many t c =
    let a = c.requires in
    let visited = may_visit (ap not c.if-not-visit.false) c.visit.ensures in
    let given = c.value_at-value.ensures in
    let at : ℤ = value c.args.state.now.count.m (front c.args.state.now.count c.args.readings.now) (take c.args.i c.args.path.now) in
    let is : to_z w32 (of_z w32 c.value_at-value.result) ≡ at = to_z-of_z {w = w32} (record { sfits = c.value_at-value.type_inv })
    ∙ value-is a.0 a.1 visited given in
    let first : c.hard-first.result ≡ hard at = c.hard-first.ensures.0 ∙ ap hard is in
    let other : c.args.penalty + c.loss.result ≡ c.args.penalty + loss at (1 - hard at) =
    ap (λ (n : ℕ). c.args.penalty + n) (c.loss.ensures ∙ ap₂ (λ (v : ℤ) (b : ℕ). loss v (1 - b)) is first) in
    let put : c.put.new.path ≡ set c.args.path.now c.args.i (hard at) = c.put.ensures ∙ ap (set c.args.path.now c.args.i) first in
    let gone : drops c.args.state.now (c.args.penalty + c.loss.result) ≡ true = sym c.dropped-gone.ensures ∙ c.if-gone.true in
    let n = c.hard_here-n.result in
    let block = c.hard_here-n.ensures in
    let counted = c.visit_many.ensures in
    behind_out a.0 a.1 visited given a.2 put block other gone counted.1 (sym counted.0 ∙ c.if-not-visit_many.true)

pub info_step-frozen_step-requires : goal.info_step-frozen_step-requires
info_step-frozen_step-requires t c =
    let a = c.requires in
    let visited = may_visit (ap not c.if-not-visit.false) c.visit.ensures in
    let given = c.value_at-value.ensures in
    let at : ℤ = value c.args.state.now.count.m (front c.args.state.now.count c.args.readings.now) (take c.args.i c.args.path.now) in
    let is : to_z w32 (of_z w32 c.value_at-value.result) ≡ at = to_z-of_z {w = w32} (record { sfits = c.value_at-value.type_inv })
    ∙ value-is a.0 a.1 visited given in
    let first : c.hard-first.result ≡ hard at = c.hard-first.ensures.0 ∙ ap hard is in
    let other : c.args.penalty + c.loss.result ≡ c.args.penalty + loss at (1 - hard at) =
    ap (λ (n : ℕ). c.args.penalty + n) (c.loss.ensures ∙ ap₂ (λ (v : ℤ) (b : ℕ). loss v (1 - b)) is first) in
    let put : c.put.new.path ≡ set c.args.path.now c.args.i (hard at) = c.put.ensures ∙ ap (set c.args.path.now c.args.i) first in
    let gone : drops c.args.state.now (c.args.penalty + c.loss.result) ≡ true = sym c.dropped-gone.ensures ∙ c.if-gone.true in
    let n = c.hard_here-n.result in
    let block = c.hard_here-n.ensures in
    let counted = c.visit_many.ensures in
    let may : allows_more (n + n - 1) c.value_at-value.new.count ≡ true = sym counted.0 ∙ c.if-not-visit_many.false in
    let same = hard_m a.0 a.1 visited given a.2 put block other gone counted.1 may in
    let later : c.args.i < c.args.i + n = omega (arith, (block-length block).0) in (
      omega (arith, c.decreases, information_call c.args.kinds.now same c.args.i _ a.0.ready.long_kinds a.1 a.2 later),
      behind_asked a.0 a.1 visited given a.2 put block other gone counted.1 may refl,
    )

pub info_step-returns-then-gone : goal.info_step-returns-then-gone
info_step-returns-then-gone t c =
    let a = c.requires in
    let visited = may_visit (ap not c.if-not-visit.false) c.visit.ensures in
    let given = c.value_at-value.ensures in
    let at : ℤ = value c.args.state.now.count.m (front c.args.state.now.count c.args.readings.now) (take c.args.i c.args.path.now) in
    let is : to_z w32 (of_z w32 c.value_at-value.result) ≡ at = to_z-of_z {w = w32} (record { sfits = c.value_at-value.type_inv })
    ∙ value-is a.0 a.1 visited given in
    let first : c.hard-first.result ≡ hard at = c.hard-first.ensures.0 ∙ ap hard is in
    let other : c.args.penalty + c.loss.result ≡ c.args.penalty + loss at (1 - hard at) =
    ap (λ (n : ℕ). c.args.penalty + n) (c.loss.ensures ∙ ap₂ (λ (v : ℤ) (b : ℕ). loss v (1 - b)) is first) in
    let put : c.put.new.path ≡ set c.args.path.now c.args.i (hard at) = c.put.ensures ∙ ap (set c.args.path.now c.args.i) first in
    let gone : drops c.args.state.now (c.args.penalty + c.loss.result) ≡ true = sym c.dropped-gone.ensures ∙ c.if-gone.true in
    let n = c.hard_here-n.result in
    let block = c.hard_here-n.ensures in
    let counted = c.visit_many.ensures in
    let may : allows_more (n + n - 1) c.value_at-value.new.count ≡ true = sym counted.0 ∙ c.if-not-visit_many.false in
    behind_given a.0 a.1 visited given a.2 put block other gone counted.1 may refl c.frozen_step.ensures

-- the other bit is not dropped yet: first the step below
pub info_step-frozen_step-requires-2 : goal.info_step-frozen_step-requires-2
info_step-frozen_step-requires-2 t c =
    let a = c.requires in
    let visited = may_visit (ap not c.if-not-visit.false) c.visit.ensures in
    let given = c.value_at-value.ensures in
    let at : ℤ = value c.args.state.now.count.m (front c.args.state.now.count c.args.readings.now) (take c.args.i c.args.path.now) in
    let is : to_z w32 (of_z w32 c.value_at-value.result) ≡ at = to_z-of_z {w = w32} (record { sfits = c.value_at-value.type_inv })
    ∙ value-is a.0 a.1 visited given in
    let first : c.hard-first.result ≡ hard at = c.hard-first.ensures.0 ∙ ap hard is in
    let other : c.args.penalty + c.loss.result ≡ c.args.penalty + loss at (1 - hard at) =
    ap (λ (n : ℕ). c.args.penalty + n) (c.loss.ensures ∙ ap₂ (λ (v : ℤ) (b : ℕ). loss v (1 - b)) is first) in
    let put : c.put.new.path ≡ set c.args.path.now c.args.i (hard at) = c.put.ensures ∙ ap (set c.args.path.now c.args.i) first in
    let going = value_going a.0 a.1 visited given in
    let low = first_undropped a.0 a.1 going in
    let same = deeper_m a.0 a.1 going (hard at) (hard_bit at) (first_adds a.0 a.1) low put in (
      omega (arith, c.decreases, information_call c.args.kinds.now same c.args.i (c.args.i + 1) a.0.ready.long_kinds a.1 a.2 (omega arith)),
      deeper_asked a.0 a.1 going (hard at) (hard_bit at) (first_adds a.0 a.1) low put,
    )

-- after the first extension
pub info_step-returns-then-not-visit-2 : goal.info_step-returns-then-not-visit-2
info_step-returns-then-not-visit-2 t c =
    let a = c.requires in
    let visited = may_visit (ap not c.if-not-visit.false) c.visit.ensures in
    let given = c.value_at-value.ensures in
    let at : ℤ = value c.args.state.now.count.m (front c.args.state.now.count c.args.readings.now) (take c.args.i c.args.path.now) in
    let is : to_z w32 (of_z w32 c.value_at-value.result) ≡ at = to_z-of_z {w = w32} (record { sfits = c.value_at-value.type_inv })
    ∙ value-is a.0 a.1 visited given in
    let first : c.hard-first.result ≡ hard at = c.hard-first.ensures.0 ∙ ap hard is in
    let other : c.args.penalty + c.loss.result ≡ c.args.penalty + loss at (1 - hard at) =
    ap (λ (n : ℕ). c.args.penalty + n) (c.loss.ensures ∙ ap₂ (λ (v : ℤ) (b : ℕ). loss v (1 - b)) is first) in
    let put : c.put.new.path ≡ set c.args.path.now c.args.i (hard at) = c.put.ensures ∙ ap (set c.args.path.now c.args.i) first in
    let going = value_going a.0 a.1 visited given in
    let low = first_undropped a.0 a.1 going in
    let f = c.frozen_step-2 in
    let extended = deeper_given a.0 a.1 going (hard at) (hard_bit at) (first_adds a.0 a.1) low put f.ensures in
    second_stop a.0 a.1 a.2 f.new.state extended (may_not (ap not c.if-not-visit-2.true) c.visit-2.ensures)

pub info_step-returns-then-dropped : goal.info_step-returns-then-dropped
info_step-returns-then-dropped t c =
    let a = c.requires in
    let visited = may_visit (ap not c.if-not-visit.false) c.visit.ensures in
    let given = c.value_at-value.ensures in
    let at : ℤ = value c.args.state.now.count.m (front c.args.state.now.count c.args.readings.now) (take c.args.i c.args.path.now) in
    let is : to_z w32 (of_z w32 c.value_at-value.result) ≡ at = to_z-of_z {w = w32} (record { sfits = c.value_at-value.type_inv })
    ∙ value-is a.0 a.1 visited given in
    let first : c.hard-first.result ≡ hard at = c.hard-first.ensures.0 ∙ ap hard is in
    let other : c.args.penalty + c.loss.result ≡ c.args.penalty + loss at (1 - hard at) =
    ap (λ (n : ℕ). c.args.penalty + n) (c.loss.ensures ∙ ap₂ (λ (v : ℤ) (b : ℕ). loss v (1 - b)) is first) in
    let put : c.put.new.path ≡ set c.args.path.now c.args.i (hard at) = c.put.ensures ∙ ap (set c.args.path.now c.args.i) first in
    let going = value_going a.0 a.1 visited given in
    let low = first_undropped a.0 a.1 going in
    let f = c.frozen_step-2 in
    let extended = deeper_given a.0 a.1 going (hard at) (hard_bit at) (first_adds a.0 a.1) low put f.ensures in
    let kept = deeper_kept a.0 a.1 going (hard at) (hard_bit at) (first_adds a.0 a.1) low put f.ensures in
    let again = second_going a.0 a.1 a.2 f.new.state extended (may_visit (ap not c.if-not-visit-2.false) c.visit-2.ensures) kept in
    second-dropped a.0 a.1 a.2 f.new.state extended again other (sym c.dropped.ensures ∙ c.if-dropped.true)

-- the other bit is put
pub info_step-frozen_step-requires-3 : goal.info_step-frozen_step-requires-3
info_step-frozen_step-requires-3 t c =
    let a = c.requires in
    let visited = may_visit (ap not c.if-not-visit.false) c.visit.ensures in
    let given = c.value_at-value.ensures in
    let at : ℤ = value c.args.state.now.count.m (front c.args.state.now.count c.args.readings.now) (take c.args.i c.args.path.now) in
    let is : to_z w32 (of_z w32 c.value_at-value.result) ≡ at = to_z-of_z {w = w32} (record { sfits = c.value_at-value.type_inv })
    ∙ value-is a.0 a.1 visited given in
    let first : c.hard-first.result ≡ hard at = c.hard-first.ensures.0 ∙ ap hard is in
    let other : c.args.penalty + c.loss.result ≡ c.args.penalty + loss at (1 - hard at) =
    ap (λ (n : ℕ). c.args.penalty + n) (c.loss.ensures ∙ ap₂ (λ (v : ℤ) (b : ℕ). loss v (1 - b)) is first) in
    let put : c.put.new.path ≡ set c.args.path.now c.args.i (hard at) = c.put.ensures ∙ ap (set c.args.path.now c.args.i) first in
    let going = value_going a.0 a.1 visited given in
    let low = first_undropped a.0 a.1 going in
    let f = c.frozen_step-2 in
    let extended = deeper_given a.0 a.1 going (hard at) (hard_bit at) (first_adds a.0 a.1) low put f.ensures in
    let kept = deeper_kept a.0 a.1 going (hard at) (hard_bit at) (first_adds a.0 a.1) low put f.ensures in
    let again = second_going a.0 a.1 a.2 f.new.state extended (may_visit (ap not c.if-not-visit-2.false) c.visit-2.ensures) kept in
    let undropped = sym c.dropped.ensures ∙ c.if-dropped.false in
    let other_put : c.put-2.new.path ≡ set f.new.path c.args.i (1 - hard at) =
    c.put-2.ensures ∙ ap (λ (b : ℕ). set f.new.path c.args.i (1 - b)) first in
    let same = deeper_m a.0 a.1 again (1 - hard at) (omega arith) other undropped other_put in (
      omega (arith, c.decreases, information_call c.args.kinds.now same c.args.i (c.args.i + 1) a.0.ready.long_kinds a.1 a.2 (omega arith)),
      deeper_asked a.0 a.1 again (1 - hard at) (omega arith) other undropped other_put,
    )

pub info_step-returns : goal.info_step-returns
info_step-returns t c =
    let a = c.requires in
    let visited = may_visit (ap not c.if-not-visit.false) c.visit.ensures in
    let given = c.value_at-value.ensures in
    let at : ℤ = value c.args.state.now.count.m (front c.args.state.now.count c.args.readings.now) (take c.args.i c.args.path.now) in
    let is : to_z w32 (of_z w32 c.value_at-value.result) ≡ at = to_z-of_z {w = w32} (record { sfits = c.value_at-value.type_inv })
    ∙ value-is a.0 a.1 visited given in
    let first : c.hard-first.result ≡ hard at = c.hard-first.ensures.0 ∙ ap hard is in
    let other : c.args.penalty + c.loss.result ≡ c.args.penalty + loss at (1 - hard at) =
    ap (λ (n : ℕ). c.args.penalty + n) (c.loss.ensures ∙ ap₂ (λ (v : ℤ) (b : ℕ). loss v (1 - b)) is first) in
    let put : c.put.new.path ≡ set c.args.path.now c.args.i (hard at) = c.put.ensures ∙ ap (set c.args.path.now c.args.i) first in
    let going = value_going a.0 a.1 visited given in
    let low = first_undropped a.0 a.1 going in
    let f = c.frozen_step-2 in
    let extended = deeper_given a.0 a.1 going (hard at) (hard_bit at) (first_adds a.0 a.1) low put f.ensures in
    let kept = deeper_kept a.0 a.1 going (hard at) (hard_bit at) (first_adds a.0 a.1) low put f.ensures in
    let again = second_going a.0 a.1 a.2 f.new.state extended (may_visit (ap not c.if-not-visit-2.false) c.visit-2.ensures) kept in
    let undropped = sym c.dropped.ensures ∙ c.if-dropped.false in
    let other_put : c.put-2.new.path ≡ set f.new.path c.args.i (1 - hard at) =
    c.put-2.ensures ∙ ap (λ (b : ℕ). set f.new.path c.args.i (1 - b)) first in
    let e = c.frozen_step-3.ensures in
    second-given a.0 a.1 a.2 f.new.state extended again
    (deeper_given a.0 a.1 again (1 - hard at) (omega arith) other undropped other_put e)
