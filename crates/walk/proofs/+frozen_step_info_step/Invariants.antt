-- The measure of the walk's two steps, which call each other in turn: twice the number of information indices still to choose, and one more in the
-- frozen step (specs/Depth.antt); what the frozen step's loop keeps, and its measure.
use Rattle.std.proofs.Common.{◌-◌, ◌^◌}
use Rattle.walk.specs.Progress.{front, Reached}
use Rattle.walk.specs.Depth.{frozen_measure, information_measure}
use Rattle.walk.proofs.+frozen_step_info_step.Given as goal

abbrev pub decreases-frozen_step : goal.decreases-frozen_step
decreases-frozen_step l = frozen_measure (front l.state.now.count l.kinds.now) l.from

abbrev pub decreases-info_step : goal.decreases-info_step
decreases-info_step l = information_measure (front l.state.now.count l.kinds.now) l.i

-- the walk from the index that the loop has come to is the walk from its first one
abbrev pub invariant-frozen_step-loop-rows : goal.invariant-frozen_step-loop-rows
invariant-frozen_step-loop-rows l =
    Reached l.readings l.kinds l.initial.path l.initial.best l.initial.second l.initial.state l.from l.penalty l.rows l.path l.best l.second l.state l.i l.sum

abbrev pub decreases-frozen_step-loop-rows : goal.decreases-frozen_step-loop-rows
decreases-frozen_step-loop-rows l = 2 ^ l.initial.state.count.m - l.i
