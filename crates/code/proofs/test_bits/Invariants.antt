-- `test_bits`: there is a byte above 1, and every byte passed is at most 1.
use Rattle.code.specs.EntriesLaws.{GoodBefore}
use Rattle.code.proofs.test_bits.Given as goal

abbrev pub invariant-loop-i : goal.invariant-loop-i
invariant-loop-i l = GoodBefore 0 (λ b. b) 1 l.bits l.i
