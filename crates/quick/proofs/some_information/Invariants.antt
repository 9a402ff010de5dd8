-- `some_information`: the kinds from the index on, and what was found before them.
use Rattle.quick.specs.FrozenLaws.{Sought}
use Rattle.quick.proofs.some_information.Given as goal

abbrev pub invariant-loop-kind : goal.invariant-loop-kind
invariant-loop-kind l = Sought l.kinds l.kind-index l.some
