-- `walk`: the first step is asked and gives what the whole walk does; no row is made yet.
use Rattle.std.proofs.Common.{ℕ, sym, subst}
use Rattle.std.specs.Prelude.{pos, replicate}
use Rattle.std.proofs.lemmas.List.{length-replicate}
use Rattle.words.specs.TransformLaws.{bits_zeros}
use Rattle.walk.specs.declared.progress.Count.{Count}
use Rattle.walk.specs.Progress.{none_yet, StepAsked}
use Rattle.walk.specs.StartLaws.{start_asked}
use Rattle.walk.proofs.walk.Goals as goal

pub frozen_step-requires : goal.frozen_step-requires
frozen_step-requires c =
    let a = c.args in
    subst (λ (k : Count). StepAsked a.readings.now a.kinds.now (replicate 256 (pos 0)) (replicate 256 0) a.best.now a.second.now
    (record { held = 0; best = 0; second = none_yet; count = k }) 0 0) (sym c.start.ensures)
    (start_asked a.m a.allowed a.readings.now a.kinds.now a.best.now a.second.now c.requires
    (replicate 256 (pos 0)) (replicate 256 0) (length-replicate {A = ℕ} 256 0) (bits_zeros 256))
