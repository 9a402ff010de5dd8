-- No frozen index is named before i.
use Rattle.words.specs.Kinds.{kinds}
use Rattle.named.specs.NamedLaws.{NoneBefore}
use Rattle.named.proofs.names_frozen.Given as goal

abbrev pub invariant-loop-i : goal.invariant-loop-i
invariant-loop-i l = NoneBefore l.named (kinds l.code.r l.code.m) l.i
