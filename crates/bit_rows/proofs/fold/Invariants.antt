-- The loop's invariant: the sums come first, then what is unchanged.
use Rattle.std.proofs.Common.{◌≡◌}
use Rattle.numbers.specs.Front.{front}
use Rattle.bit_rows.proofs.FoldLaws.{sums}
use Rattle.bit_rows.proofs.fold.Given as goal

abbrev pub invariant-loop-j : goal.invariant-loop-j
invariant-loop-j l = l.word ≡ front l.initial.word (sums l.initial.word l.h) l.j
