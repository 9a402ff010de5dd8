-- `float_walk::finish`: which of both rows is copied, and which penalties are held, is what holding a full path means.
use Rattle.std.proofs.Common.{sym, ◌∙◌, ltb-true, ltb-false}
use Rattle.walk.specs.ProgressLaws.{held_as_best, held_as_second}
use Rattle.float_walk.specs.Held.{count, progress_of}
use Rattle.float_walk.specs.PenaltyLaws.{penalty_lt}
use Rattle.float_walk.proofs.finish.Goals as goal

pub returns-then-penalty-held : goal.returns-then-penalty-held
returns-then-penalty-held c =
    let a = c.args in
    let old = c.copy-then-penalty-held in
    let less = sym (penalty_lt c.requires.1 c.requires.2.best) ∙ c.if-penalty-held.true in (
      λ k e. held_as_best a.n (count a.penalty) (progress_of a.held k) a.path.now a.best.now a.second.now
          c.copy-then-penalty-held-2.new.to old.new.to e c.if-held-eq0.false
          (ltb-true _ _ less) old.ensures c.copy-then-penalty-held-2.ensures,
      record { best = c.requires.1; second = c.requires.2.best },
    )

pub returns : goal.returns
returns c =
    let a = c.args in
    let not_less = sym (penalty_lt c.requires.1 c.requires.2.best) ∙ c.if-penalty-held.false in (
      λ k e. held_as_second a.n (count a.penalty) (progress_of a.held k) a.path.now a.best.now a.second.now
          a.best.now c.copy-2.new.to e c.if-held-eq0.false
          (ltb-false _ _ not_less) c.copy-2.ensures,
      record { best = c.requires.2.best; second = c.requires.1 },
    )
