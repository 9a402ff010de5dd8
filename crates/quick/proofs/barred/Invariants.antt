-- `barred`: what is found from i on, and what was found before.
use Rattle.std.specs.Prelude.{◌≡◌, ◌||◌, drop}
use Rattle.quick.specs.Engine.{barred}
use Rattle.quick.proofs.barred.Given as goal

abbrev pub invariant-loop-i : goal.invariant-loop-i
invariant-loop-i l = barred l.kinds l.row ≡ (l.some || barred (drop l.i l.kinds) (drop l.i l.row))
