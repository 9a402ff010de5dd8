-- The loop's invariant: the columns passed are there.
use Rattle.std.proofs.Common.{◌≡◌, ◌^◌, length, get_or}
use Rattle.images.specs.Images.{Shows}
use Rattle.images.proofs.undo_columns.Given as goal

abbrev pub invariant-loop-q : goal.invariant-loop-q
invariant-loop-q l = Shows (λ k. get_or l.places (2 ^ k) 0) l.q l.columns × (length l.columns ≡ 8)
