-- `all_chosen`: whether the kinds so far carry information.
use Rattle.std.proofs.Common.{◌≡◌}
use Rattle.blocks.specs.Information.{all_chosen}
use Rattle.blocks.proofs.information.all_chosen.Given as goal

abbrev pub invariant-loop-kind : goal.invariant-loop-kind
invariant-loop-kind l = l.all ≡ all_chosen l.kinds l.i l.kind-index
