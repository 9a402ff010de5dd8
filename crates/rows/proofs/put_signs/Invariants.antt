-- `rows::put_signs`: the word holds the signs up to where the loop is.
use Rattle.std.proofs.Common.{◌≡◌, map}
use Rattle.numbers.specs.Front.{front}
use Rattle.decoding.specs.Quick.{hard}
use Rattle.rows.proofs.put_signs.Given as goal

abbrev pub invariant-loop-i : goal.invariant-loop-i
invariant-loop-i l = l.word ≡ front l.initial.word (map hard l.row) l.i
