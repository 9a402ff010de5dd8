-- The loop's invariant is `Blockwise`: the first k blocks are transformed.
use Rattle.std.proofs.Common.{◌*◌}
use Rattle.words.specs.Word.{transform}
use Rattle.bit_rows.specs.BlockLaws.{Blockwise}
use Rattle.bit_rows.proofs.eights.Given as goal

abbrev pub invariant-loop-k : goal.invariant-loop-k
invariant-loop-k l = Blockwise (transform 3) 8 l.initial.word l.word (8 * l.k)
