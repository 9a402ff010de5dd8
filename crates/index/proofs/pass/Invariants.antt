-- `index::pass` meets its contract: the remaining steps lead to the same place.
use Rattle.std.proofs.Common.{◌≡◌, ◌-◌}
use Rattle.index.specs.Steps.{passed}
use Rattle.index.proofs.pass.Given as goal

abbrev pub invariant-loop : goal.invariant-loop
invariant-loop l = passed l.capture (l.count - l.counter) l.at ≡ passed l.capture l.count l.start
