-- `float_walk::walk`: the first step requires and gives what the whole walk does; no row has been made yet.
use Rattle.std.proofs.Common.{ℕ, sym, subst}
use Rattle.std.specs.Prelude.{replicate}
use Rattle.std.proofs.lemmas.List.{length-replicate}
use Rattle.words.specs.TransformLaws.{bits_zeros}
use Rattle.walk.specs.declared.progress.Count.{Count}
use Rattle.float_numbers.specs.Whole.{wholes}
use Rattle.float_walk.specs.Held.{FloatAsked, FloatGiven}
use Rattle.float_walk.specs.HeldLaws.{none_held, float_asked, float-walked}
use Rattle.float_walk.proofs.walk.Goals as goal

pub frozen_step-held-requires : goal.frozen_step-held-requires
frozen_step-held-requires c =
    let a = c.args in
    subst (λ (k : Count). FloatAsked (wholes a.readings.now) a.kinds.now _ (replicate 256 0) a.best.now a.second.now k none_held 0 none_held.best)
    (sym c.start-count.ensures)
    (float_asked a.m a.allowed (wholes a.readings.now) a.kinds.now a.best.now a.second.now c.requires
    _ (replicate 256 0) (length-replicate {A = ℕ} 256 0) (bits_zeros 256))

pub returns : goal.returns
returns c =
    let a = c.args in
    let f = c.frozen_step-held in (
      float-walked a.m a.allowed (wholes a.readings.now) a.kinds.now a.best.now a.second.now
          (subst (λ (k : Count). FloatGiven (wholes a.readings.now) a.kinds.now (replicate 256 0) a.best.now a.second.now k none_held 0 none_held.best
          (wholes f.new.rows) f.new.path f.new.best f.new.second f.new.count f.result) c.start-count.ensures f.ensures),
      f.ensures.counts,
    )
