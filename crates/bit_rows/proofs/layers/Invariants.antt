-- The loop's invariant is `Layering`: what the layers that are left give is what all give.
use Rattle.bit_rows.proofs.LayerLaws.{Layering}
use Rattle.bit_rows.proofs.layers.Given as goal

abbrev pub invariant-loop-t : goal.invariant-loop-t
invariant-loop-t l = Layering l.from l.m l.initial.word l.word l.t
