-- The count is of the indices left before i.
use Rattle.words.specs.Kinds.{kinds}
use Rattle.named.specs.NamedLaws.{CountedBefore}
use Rattle.named.proofs.count_left.Given as goal

abbrev pub invariant-loop-i : goal.invariant-loop-i
invariant-loop-i l = CountedBefore l.named (kinds l.code.r l.code.m) l.i l.count
