-- The loop's invariant is `Blockwise`: the first k blocks are folded.
use Rattle.std.proofs.Common.{◌+◌, ◌*◌}
use Rattle.bit_rows.specs.Fold.{folded}
use Rattle.bit_rows.specs.BlockLaws.{Blockwise}
use Rattle.bit_rows.proofs.fold_blocks.Given as goal

abbrev pub invariant-loop-k : goal.invariant-loop-k
invariant-loop-k l = Blockwise (folded l.h) (l.h + l.h) l.initial.word l.word ((l.h + l.h) * l.k)
