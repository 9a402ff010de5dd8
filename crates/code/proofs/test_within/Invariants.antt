-- `test_within`: there is a reading beyond the largest, and every reading passed is within it.
use Rattle.std.specs.Prelude.{pos, nat_abs}
use Rattle.numbers.specs.Parts.{up}
use Rattle.code.specs.EntriesLaws.{GoodBefore}
use Rattle.code.proofs.test_within.Given as goal

abbrev pub invariant-loop-i : goal.invariant-loop-i
invariant-loop-i l = GoodBefore (pos 0) nat_abs (up l.largest) l.readings l.i
