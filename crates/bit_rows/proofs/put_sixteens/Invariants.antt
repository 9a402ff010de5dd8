-- The loop's invariant is `Putting`: the words of the first k blocks are in the row.
use Rattle.words.specs.Word.{transform}
use Rattle.bit_rows.proofs.SixteenLaws.{Putting}
use Rattle.bit_rows.proofs.put_sixteens.Given as goal

abbrev pub invariant-loop-k : goal.invariant-loop-k
invariant-loop-k l = Putting (transform 4) l.word l.row l.k
