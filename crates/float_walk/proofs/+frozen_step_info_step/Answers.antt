-- The float walk's two steps, which call each other in turn, meet their contracts by the laws of `walk`, which are about what is held and counted there;
-- what is held here is translated into it.
use Rattle.std.proofs.Common.{◌≡◌, refl, ℕ, ◌+◌, ◌-◌, ◌^◌, ◌<◌, not, set, take, ap, ap₂, sym, ◌∙◌, subst, arith, ℤ, leb}
use Rattle.std.proofs.lemmas.Bool.{eqb-true}
use Rattle.decoding.specs.Readings.{loss, sum_limit}
use Rattle.decoding.specs.Quick.{hard}
use Rattle.decoding.specs.Walk.{value}
use Rattle.decoding.specs.PathLaws.{hard_bit}
use Rattle.walk.specs.Progress.{front}
use Rattle.walk.specs.StepLaws.{true_false, value_small, sum_small}
use Rattle.walk.specs.GoingLaws.{may_visit, may_not, not_full, full_step, frozen_stop, info_stop}
use Rattle.walk.specs.GoingLaws.{value-is, value_going, reached_given, frozen_dropped, reached_more}
use Rattle.walk.specs.GoingLaws.{deeper_m, deeper_asked, deeper_given, deeper_kept, first_adds}
use Rattle.walk.specs.GoingLaws.{second_stop, second_going, second-dropped, second-given}
use Rattle.walk.proofs.DepthLaws.{information_call, frozen_call}
use Rattle.float_numbers.specs.Whole.{whole_of, wholes}
use Rattle.float_walk.specs.declared.Extension.{Extension}
use Rattle.float_walk.specs.declared.Extension.TheVariants.{Dropped, Kept}
use Rattle.float_walk.specs.Held.{count, second_of, progress_of, Extends}
use Rattle.float_walk.specs.PenaltyLaws.{kept_as}
use Rattle.float_walk.specs.HeldLaws.{float-given}
use Rattle.float_walk.proofs.+frozen_step_info_step.Goals as goal

-- ---- the frozen step
pub frozen_step-info_step-requires : goal.frozen_step-info_step-requires
frozen_step-info_step-requires t c =
    let r = c.loop-rows.invariant in
    let inside = not_full r.reached.asked (sym c.full.ensures ∙ c.loop-rows-test.true) in
    let same = ap (λ (n : ℕ). 2 ^ n) r.reached.onward.same_m in (
      omega (arith, c.decreases, frozen_call c.args.kinds.now same c.args.from _ r.reached.onward.on),
      (record { asked = r.reached.asked; penalty = r.penalty; counts = c.requires.counts }, inside, c.if-kinds-i-ne0.true),
    )

pub frozen_step-returns-then-kinds-i-ne0 : goal.frozen_step-returns-then-kinds-i-ne0
frozen_step-returns-then-kinds-i-ne0 t c =
    float-given c.loop-rows.invariant c.info_step.ensures

pub frozen_step-returns-then-not-visit : goal.frozen_step-returns-then-not-visit
frozen_step-returns-then-not-visit t c =
    let r = c.loop-rows.invariant in
    let inside = not_full r.reached.asked (sym c.full.ensures ∙ c.loop-rows-test.true) in
    record {
      given = reached_given r.reached (frozen_stop r.reached.asked inside c.if-kinds-i-ne0.false
          (may_not (ap not c.if-not-visit.true) c.visit.ensures));
      counts = c.requires.counts;
    }

pub frozen_step-extend-requires : goal.frozen_step-extend-requires
frozen_step-extend-requires t c =
    let r = c.loop-rows.invariant in
    let inside = not_full r.reached.asked (sym c.full.ensures ∙ c.loop-rows-test.true) in
    let visited = may_visit (ap not c.if-not-visit.false) c.visit.ensures in
    let given = c.value_at-value.ensures in
    let at : ℤ = value c.loop-rows.count.m (front c.loop-rows.count (wholes c.args.readings.now)) (take c.loop-rows.i c.loop-rows.path) in
    let is : whole_of c.value_at-value.result ≡ at = value-is r.reached.asked inside visited given in
    (c.requires.counts, r.penalty, rw is (value_small r.reached.asked.ready), rw is (sum_small r.reached.asked.ready 0 inside (omega arith)))

-- what the 0 leads to: it is dropped, or kept
pub frozen_step-returns-in_default : goal.frozen_step-returns-in_default
frozen_step-returns-in_default t c =
    let r = c.loop-rows.invariant in
    let inside = not_full r.reached.asked (sym c.full.ensures ∙ c.loop-rows-test.true) in
    let visited = may_visit (ap not c.if-not-visit.false) c.visit.ensures in
    let given = c.value_at-value.ensures in
    let at : ℤ = value c.loop-rows.count.m (front c.loop-rows.count (wholes c.args.readings.now)) (take c.loop-rows.i c.loop-rows.path) in
    let is : whole_of c.value_at-value.result ≡ at = value-is r.reached.asked inside visited given in
    let going = value_going r.reached.asked inside visited given in
    let extends = λ (e : Extension) (x : Extends c.args.held (count c.loop-rows.sum + loss (whole_of c.value_at-value.result) 0) e).
    subst (λ (v : ℤ). Extends c.args.held (count c.loop-rows.sum + loss v 0) e) is x in
    record {
      given = frozen_dropped r.reached inside c.if-kinds-i-ne0.false going refl (extends Dropped c.in_default.ensures);
      counts = c.requires.counts;
    }

pub frozen_step-loop-rows-preserved : goal.frozen_step-loop-rows-preserved
frozen_step-loop-rows-preserved t c =
    let r = c.loop-rows.invariant in
    let inside = not_full r.reached.asked (sym c.full.ensures ∙ c.loop-rows-test.true) in
    let visited = may_visit (ap not c.if-not-visit.false) c.visit.ensures in
    let given = c.value_at-value.ensures in
    let at : ℤ = value c.loop-rows.count.m (front c.loop-rows.count (wholes c.args.readings.now)) (take c.loop-rows.i c.loop-rows.path) in
    let is : whole_of c.value_at-value.result ≡ at = value-is r.reached.asked inside visited given in
    let going = value_going r.reached.asked inside visited given in
    let extends = λ (e : Extension) (x : Extends c.args.held (count c.loop-rows.sum + loss (whole_of c.value_at-value.result) 0) e).
    subst (λ (v : ℤ). Extends c.args.held (count c.loop-rows.sum + loss v 0) e) is x in
    let x = kept_as {h = c.args.held} (extends (Kept c.in-Kept.after) c.in-Kept.ensures) (sum_small r.reached.asked.ready 0 inside (omega arith)) in
    record {
      reached = reached_more r.reached inside c.if-kinds-i-ne0.false going x.adds x.kept c.put.ensures;
      penalty = x.penalty;
    }

-- the path is full
pub frozen_step-returns : goal.frozen_step-returns
frozen_step-returns t c =
    let r = c.loop-rows.invariant in
    let full = eqb-true c.loop-rows.i (2 ^ c.loop-rows.count.m) (sym c.full.ensures ∙ c.loop-rows-test.false) in
    let f = c.finish.ensures in
    record {
      given = reached_given r.reached (full_step r.reached.asked full (f.0 c.loop-rows.count full));
      counts = f.1;
    }

-- ---- the information step
pub info_step-returns-then-not-visit : goal.info_step-returns-then-not-visit
info_step-returns-then-not-visit t c =
    let a = c.requires in
    record {
      given = info_stop a.0.asked a.1 a.2 (may_not (ap not c.if-not-visit.true) c.visit.ensures);
      counts = a.0.counts;
    }

pub info_step-first_bit-first-requires : goal.info_step-first_bit-first-requires
info_step-first_bit-first-requires t c =
    let a = c.requires in
    let visited = may_visit (ap not c.if-not-visit.false) c.visit.ensures in
    let given = c.value_at-value.ensures in
    let at : ℤ = value c.args.count.now.m (front c.args.count.now (wholes c.args.readings.now)) (take c.args.i c.args.path.now) in
    let is : whole_of c.value_at-value.result ≡ at = value-is a.0.asked a.1 visited given in
    rw is (value_small a.0.asked.ready)

-- the first extension: the bit adds nothing, so that it is kept
pub info_step-extend-requires : goal.info_step-extend-requires
info_step-extend-requires t c =
    let a = c.requires in
    let visited = may_visit (ap not c.if-not-visit.false) c.visit.ensures in
    let given = c.value_at-value.ensures in
    let at : ℤ = value c.args.count.now.m (front c.args.count.now (wholes c.args.readings.now)) (take c.args.i c.args.path.now) in
    let is : whole_of c.value_at-value.result ≡ at = value-is a.0.asked a.1 visited given in
    let first : c.first_bit-first.result ≡ hard at = c.first_bit-first.ensures ∙ ap hard is in
    let sum : count c.args.penalty + loss (whole_of c.value_at-value.result) c.first_bit-first.result ≡ count c.args.penalty + loss at (hard at) =
    ap₂ (λ (v : ℤ) (k : ℕ). count c.args.penalty + loss v k) is first in
    let small = sum_small a.0.asked.ready (hard at) a.1 (hard_bit at) in
    (a.0.counts, a.0.penalty, rw is (value_small a.0.asked.ready), subst (λ (n : ℕ). n < sum_limit) (sym sum) small)

-- it is never dropped
pub info_step-returns-in_default : goal.info_step-returns-in_default
info_step-returns-in_default t c =
    let a = c.requires in
    let visited = may_visit (ap not c.if-not-visit.false) c.visit.ensures in
    let given = c.value_at-value.ensures in
    let at : ℤ = value c.args.count.now.m (front c.args.count.now (wholes c.args.readings.now)) (take c.args.i c.args.path.now) in
    let is : whole_of c.value_at-value.result ≡ at = value-is a.0.asked a.1 visited given in
    let first : c.first_bit-first.result ≡ hard at = c.first_bit-first.ensures ∙ ap hard is in
    let sum : count c.args.penalty + loss (whole_of c.value_at-value.result) c.first_bit-first.result ≡ count c.args.penalty + loss at (hard at) =
    ap₂ (λ (v : ℤ) (k : ℕ). count c.args.penalty + loss v k) is first in
    let small = sum_small a.0.asked.ready (hard at) a.1 (hard_bit at) in
    true_false (sym (subst (λ (n : ℕ). Extends c.args.held n Dropped) sum c.in_default.ensures)
    ∙ ap (leb (second_of c.args.held)) (sym (first_adds a.0.asked a.1)) ∙ a.0.asked.ready.undropped)

pub info_step-frozen_step-under-requires : goal.info_step-frozen_step-under-requires
info_step-frozen_step-under-requires t c =
    let a = c.requires in
    let visited = may_visit (ap not c.if-not-visit.false) c.visit.ensures in
    let given = c.value_at-value.ensures in
    let at : ℤ = value c.args.count.now.m (front c.args.count.now (wholes c.args.readings.now)) (take c.args.i c.args.path.now) in
    let is : whole_of c.value_at-value.result ≡ at = value-is a.0.asked a.1 visited given in
    let first : c.first_bit-first.result ≡ hard at = c.first_bit-first.ensures ∙ ap hard is in
    let sum : count c.args.penalty + loss (whole_of c.value_at-value.result) c.first_bit-first.result ≡ count c.args.penalty + loss at (hard at) =
    ap₂ (λ (v : ℤ) (k : ℕ). count c.args.penalty + loss v k) is first in
    let small = sum_small a.0.asked.ready (hard at) a.1 (hard_bit at) in
    let going = value_going a.0.asked a.1 visited given in
    let x = kept_as {h = c.args.held} (subst (λ (n : ℕ). Extends c.args.held n (Kept c.in-Kept.same)) sum c.in-Kept.ensures) small in
    let put : c.put.new.path ≡ set c.args.path.now c.args.i (hard at) = c.put.ensures ∙ ap (set c.args.path.now c.args.i) first in
    let same = deeper_m a.0.asked a.1 going (hard at) (hard_bit at) x.adds x.kept put in (
      omega (arith, c.decreases, information_call c.args.kinds.now same c.args.i (c.args.i + 1) a.0.asked.ready.long_kinds a.1 a.2 (omega arith)),
      record {
        asked = deeper_asked a.0.asked a.1 going (hard at) (hard_bit at) x.adds x.kept put;
        penalty = x.penalty;
        counts = a.0.counts;
      },
    )

-- after the first extension
pub info_step-returns-then-not-visit-2 : goal.info_step-returns-then-not-visit-2
info_step-returns-then-not-visit-2 t c =
    let a = c.requires in
    let visited = may_visit (ap not c.if-not-visit.false) c.visit.ensures in
    let given = c.value_at-value.ensures in
    let at : ℤ = value c.args.count.now.m (front c.args.count.now (wholes c.args.readings.now)) (take c.args.i c.args.path.now) in
    let is : whole_of c.value_at-value.result ≡ at = value-is a.0.asked a.1 visited given in
    let first : c.first_bit-first.result ≡ hard at = c.first_bit-first.ensures ∙ ap hard is in
    let sum : count c.args.penalty + loss (whole_of c.value_at-value.result) c.first_bit-first.result ≡ count c.args.penalty + loss at (hard at) =
    ap₂ (λ (v : ℤ) (k : ℕ). count c.args.penalty + loss v k) is first in
    let small = sum_small a.0.asked.ready (hard at) a.1 (hard_bit at) in
    let going = value_going a.0.asked a.1 visited given in
    let x = kept_as {h = c.args.held} (subst (λ (n : ℕ). Extends c.args.held n (Kept c.in-Kept.same)) sum c.in-Kept.ensures) small in
    let put : c.put.new.path ≡ set c.args.path.now c.args.i (hard at) = c.put.ensures ∙ ap (set c.args.path.now c.args.i) first in
    let f = c.frozen_step-under in
    let under = progress_of f.result f.new.count in
    let extended = deeper_given a.0.asked a.1 going (hard at) (hard_bit at) x.adds x.kept put f.ensures.given in
    record {
      given = second_stop a.0.asked a.1 a.2 under extended (may_not (ap not c.if-not-visit-2.true) c.visit-2.ensures);
      counts = f.ensures.counts;
    }

-- the penalty with the other bit
pub info_step-extend-requires-2 : goal.info_step-extend-requires-2
info_step-extend-requires-2 t c =
    let a = c.requires in
    let visited = may_visit (ap not c.if-not-visit.false) c.visit.ensures in
    let given = c.value_at-value.ensures in
    let at : ℤ = value c.args.count.now.m (front c.args.count.now (wholes c.args.readings.now)) (take c.args.i c.args.path.now) in
    let is : whole_of c.value_at-value.result ≡ at = value-is a.0.asked a.1 visited given in
    let first : c.first_bit-first.result ≡ hard at = c.first_bit-first.ensures ∙ ap hard is in
    let sum : count c.args.penalty + loss (whole_of c.value_at-value.result) c.first_bit-first.result ≡ count c.args.penalty + loss at (hard at) =
    ap₂ (λ (v : ℤ) (k : ℕ). count c.args.penalty + loss v k) is first in
    let small = sum_small a.0.asked.ready (hard at) a.1 (hard_bit at) in
    let going = value_going a.0.asked a.1 visited given in
    let x = kept_as {h = c.args.held} (subst (λ (n : ℕ). Extends c.args.held n (Kept c.in-Kept.same)) sum c.in-Kept.ensures) small in
    let put : c.put.new.path ≡ set c.args.path.now c.args.i (hard at) = c.put.ensures ∙ ap (set c.args.path.now c.args.i) first in
    let f = c.frozen_step-under in
    let under = progress_of f.result f.new.count in
    let extended = deeper_given a.0.asked a.1 going (hard at) (hard_bit at) x.adds x.kept put f.ensures.given in
    let other : count c.args.penalty + loss (whole_of c.value_at-value.result) (1 - c.first_bit-first.result)
    ≡ count c.args.penalty + loss at (1 - hard at) = ap₂ (λ (v : ℤ) (k : ℕ). count c.args.penalty + loss v (1 - k)) is first in
    let other_small = sum_small a.0.asked.ready (1 - hard at) a.1 (omega arith) in
    (f.ensures.counts, a.0.penalty, rw is (value_small a.0.asked.ready), subst (λ (n : ℕ). n < sum_limit) (sym other) other_small)

pub info_step-returns-in_default-extend : goal.info_step-returns-in_default-extend
info_step-returns-in_default-extend t c =
    let a = c.requires in
    let visited = may_visit (ap not c.if-not-visit.false) c.visit.ensures in
    let given = c.value_at-value.ensures in
    let at : ℤ = value c.args.count.now.m (front c.args.count.now (wholes c.args.readings.now)) (take c.args.i c.args.path.now) in
    let is : whole_of c.value_at-value.result ≡ at = value-is a.0.asked a.1 visited given in
    let first : c.first_bit-first.result ≡ hard at = c.first_bit-first.ensures ∙ ap hard is in
    let sum : count c.args.penalty + loss (whole_of c.value_at-value.result) c.first_bit-first.result ≡ count c.args.penalty + loss at (hard at) =
    ap₂ (λ (v : ℤ) (k : ℕ). count c.args.penalty + loss v k) is first in
    let small = sum_small a.0.asked.ready (hard at) a.1 (hard_bit at) in
    let going = value_going a.0.asked a.1 visited given in
    let x = kept_as {h = c.args.held} (subst (λ (n : ℕ). Extends c.args.held n (Kept c.in-Kept.same)) sum c.in-Kept.ensures) small in
    let put : c.put.new.path ≡ set c.args.path.now c.args.i (hard at) = c.put.ensures ∙ ap (set c.args.path.now c.args.i) first in
    let f = c.frozen_step-under in
    let under = progress_of f.result f.new.count in
    let extended = deeper_given a.0.asked a.1 going (hard at) (hard_bit at) x.adds x.kept put f.ensures.given in
    let other : count c.args.penalty + loss (whole_of c.value_at-value.result) (1 - c.first_bit-first.result)
    ≡ count c.args.penalty + loss at (1 - hard at) = ap₂ (λ (v : ℤ) (k : ℕ). count c.args.penalty + loss v (1 - k)) is first in
    let other_small = sum_small a.0.asked.ready (1 - hard at) a.1 (omega arith) in
    let kept = deeper_kept a.0.asked a.1 going (hard at) (hard_bit at) x.adds x.kept put f.ensures.given in
    let again = second_going a.0.asked a.1 a.2 under extended
    (may_visit (ap not c.if-not-visit-2.false) c.visit-2.ensures) kept in
    record {
      given = second-dropped a.0.asked a.1 a.2 under extended again refl (subst (λ (n : ℕ). Extends f.result n Dropped) other c.in_default-extend.ensures);
      counts = f.ensures.counts;
    }

-- the other bit is put
pub info_step-frozen_step-requires : goal.info_step-frozen_step-requires
info_step-frozen_step-requires t c =
    let a = c.requires in
    let visited = may_visit (ap not c.if-not-visit.false) c.visit.ensures in
    let given = c.value_at-value.ensures in
    let at : ℤ = value c.args.count.now.m (front c.args.count.now (wholes c.args.readings.now)) (take c.args.i c.args.path.now) in
    let is : whole_of c.value_at-value.result ≡ at = value-is a.0.asked a.1 visited given in
    let first : c.first_bit-first.result ≡ hard at = c.first_bit-first.ensures ∙ ap hard is in
    let sum : count c.args.penalty + loss (whole_of c.value_at-value.result) c.first_bit-first.result ≡ count c.args.penalty + loss at (hard at) =
    ap₂ (λ (v : ℤ) (k : ℕ). count c.args.penalty + loss v k) is first in
    let small = sum_small a.0.asked.ready (hard at) a.1 (hard_bit at) in
    let going = value_going a.0.asked a.1 visited given in
    let x = kept_as {h = c.args.held} (subst (λ (n : ℕ). Extends c.args.held n (Kept c.in-Kept.same)) sum c.in-Kept.ensures) small in
    let put : c.put.new.path ≡ set c.args.path.now c.args.i (hard at) = c.put.ensures ∙ ap (set c.args.path.now c.args.i) first in
    let f = c.frozen_step-under in
    let under = progress_of f.result f.new.count in
    let extended = deeper_given a.0.asked a.1 going (hard at) (hard_bit at) x.adds x.kept put f.ensures.given in
    let other : count c.args.penalty + loss (whole_of c.value_at-value.result) (1 - c.first_bit-first.result)
    ≡ count c.args.penalty + loss at (1 - hard at) = ap₂ (λ (v : ℤ) (k : ℕ). count c.args.penalty + loss v (1 - k)) is first in
    let other_small = sum_small a.0.asked.ready (1 - hard at) a.1 (omega arith) in
    let kept = deeper_kept a.0.asked a.1 going (hard at) (hard_bit at) x.adds x.kept put f.ensures.given in
    let again = second_going a.0.asked a.1 a.2 under extended
    (may_visit (ap not c.if-not-visit-2.false) c.visit-2.ensures) kept in
    let y = kept_as {h = f.result} (subst (λ (n : ℕ). Extends f.result n (Kept c.in-Kept-extend.after)) other c.in-Kept-extend.ensures) other_small in
    let other_put : c.put-2.new.path ≡ set f.new.path c.args.i (1 - hard at) =
    c.put-2.ensures ∙ ap (λ (k : ℕ). set f.new.path c.args.i (1 - k)) first in
    let same = deeper_m a.0.asked a.1 again (1 - hard at) (omega arith) y.adds y.kept other_put in (
      omega (arith, c.decreases, information_call c.args.kinds.now same c.args.i (c.args.i + 1) a.0.asked.ready.long_kinds a.1 a.2 (omega arith)),
      record {
        asked = deeper_asked a.0.asked a.1 again (1 - hard at) (omega arith) y.adds y.kept other_put;
        penalty = y.penalty;
        counts = f.ensures.counts;
      },
    )

pub info_step-returns : goal.info_step-returns
info_step-returns t c =
    let a = c.requires in
    let visited = may_visit (ap not c.if-not-visit.false) c.visit.ensures in
    let given = c.value_at-value.ensures in
    let at : ℤ = value c.args.count.now.m (front c.args.count.now (wholes c.args.readings.now)) (take c.args.i c.args.path.now) in
    let is : whole_of c.value_at-value.result ≡ at = value-is a.0.asked a.1 visited given in
    let first : c.first_bit-first.result ≡ hard at = c.first_bit-first.ensures ∙ ap hard is in
    let sum : count c.args.penalty + loss (whole_of c.value_at-value.result) c.first_bit-first.result ≡ count c.args.penalty + loss at (hard at) =
    ap₂ (λ (v : ℤ) (k : ℕ). count c.args.penalty + loss v k) is first in
    let small = sum_small a.0.asked.ready (hard at) a.1 (hard_bit at) in
    let going = value_going a.0.asked a.1 visited given in
    let x = kept_as {h = c.args.held} (subst (λ (n : ℕ). Extends c.args.held n (Kept c.in-Kept.same)) sum c.in-Kept.ensures) small in
    let put : c.put.new.path ≡ set c.args.path.now c.args.i (hard at) = c.put.ensures ∙ ap (set c.args.path.now c.args.i) first in
    let f = c.frozen_step-under in
    let under = progress_of f.result f.new.count in
    let extended = deeper_given a.0.asked a.1 going (hard at) (hard_bit at) x.adds x.kept put f.ensures.given in
    let other : count c.args.penalty + loss (whole_of c.value_at-value.result) (1 - c.first_bit-first.result)
    ≡ count c.args.penalty + loss at (1 - hard at) = ap₂ (λ (v : ℤ) (k : ℕ). count c.args.penalty + loss v (1 - k)) is first in
    let other_small = sum_small a.0.asked.ready (1 - hard at) a.1 (omega arith) in
    let kept = deeper_kept a.0.asked a.1 going (hard at) (hard_bit at) x.adds x.kept put f.ensures.given in
    let again = second_going a.0.asked a.1 a.2 under extended
    (may_visit (ap not c.if-not-visit-2.false) c.visit-2.ensures) kept in
    let y = kept_as {h = f.result} (subst (λ (n : ℕ). Extends f.result n (Kept c.in-Kept-extend.after)) other c.in-Kept-extend.ensures) other_small in
    let other_put : c.put-2.new.path ≡ set f.new.path c.args.i (1 - hard at) =
    c.put-2.ensures ∙ ap (λ (k : ℕ). set f.new.path c.args.i (1 - k)) first in
    let e = c.frozen_step.ensures in
    record {
      given = second-given a.0.asked a.1 a.2 under extended again
          (deeper_given a.0.asked a.1 again (1 - hard at) (omega arith) y.adds y.kept other_put e.given);
      counts = e.counts;
    }
