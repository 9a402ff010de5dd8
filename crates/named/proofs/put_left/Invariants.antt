-- The row holds the kinds left up to where the loop is.
use mathlib.Core.Path.{◌≡◌}
use Rattle.numbers.specs.Front.{front}
use Rattle.words.specs.Kinds.{kinds}
use Rattle.named.specs.Named.{left}
use Rattle.named.proofs.put_left.Given as goal

abbrev pub invariant-loop-i : goal.invariant-loop-i
invariant-loop-i l = l.row ≡ front l.initial.row (left l.named (kinds l.code.r l.code.m)) l.i
