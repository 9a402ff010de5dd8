-- The loop's invariant: what is moved comes first, then what is unchanged.
use Rattle.std.proofs.Common.{◌≡◌}
use Rattle.numbers.specs.Front.{front}
use Rattle.images.specs.Images.{moved}
use Rattle.images.proofs.move_entries.Given as goal

abbrev pub invariant-loop-j : goal.invariant-loop-j
invariant-loop-j g l = (d : _) → l.to ≡ front l.initial.to (moved d l.x l.images l.from) l.j
